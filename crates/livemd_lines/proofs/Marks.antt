-- What std's strips give, and the members of an object.
use Rattle.std.proofs.Common.{◌≡◌, ℕ, suc, ◌-◌, Bool, true, false, cond, List, [], ◌∷◌, Option, Some, None, MatchOption, option_map, length, take, drop, arith, refl, ap, sym, subst, ◌∙◌, String}
use Rattle.std.specs.Borrow.{Bor}
use Rattle.std.specs.Str.{IsCharBoundary}
use Rattle.std.specs.Str.Pattern.{FindsTextPrefix, FindsTextSuffix, StripsPrefix, StripsSuffix}
use Rattle.std.specs.declared.alloc.Global.{Global}
use Rattle.std.proofs.lemmas.Str.Pattern.{starts_text, ends_text}
use Rattle.serde_json.specs.View.{members_view}
use Rattle.serde_json.specs.declared.value.Value.{Value}
use Rattle.livemd_lines.specs.Meanings.{begins, ends, behind, before, member_count}

pub strips_front : (o : Option (Bor (List ℕ))) (n s : List ℕ) → MatchOption o (FindsTextPrefix n s None) (λ x. StripsPrefix (FindsTextPrefix n) s x.now) → option_map (λ t. t.now) o ≡ behind n s
strips_front None n s h =
    let b : false ≡ begins n s = starts_text false n s h in
    ap (λ (w : Bool). cond w (Some (drop (length n) s)) None) b
strips_front (Some x) n s h =
    let b : true ≡ begins n s = starts_text true n s (h.0, h.1, subst (λ m. IsCharBoundary s m) (sym h.1.0) h.1.2) in
    ap Some (h.2 ∙ ap (λ k. drop k s) h.1.0) ∙ ap (λ (w : Bool). cond w (Some (drop (length n) s)) None) b

pub strips_end : (o : Option (Bor (List ℕ))) (n s : List ℕ) → MatchOption o (FindsTextSuffix n s None) (λ x. StripsSuffix (FindsTextSuffix n) s x.now) → option_map (λ t. t.now) o ≡ before n s
strips_end None n s h =
    let b : false ≡ ends n s = ends_text false n s h in
    ap (λ (w : Bool). cond w (Some (take (length s - length n) s)) None) b
strips_end (Some x) n s h =
    let b : true ≡ ends n s = ends_text true n s (h.0, h.1, omega (arith, h.3), subst (λ m. IsCharBoundary s (length s - m)) (sym h.1.0) h.1.2) in
    ap Some (h.2 ∙ ap (λ k. take (length s - k) s) h.1.0) ∙ ap (λ (w : Bool). cond w (Some (take (length s - length n) s)) None) b

-- the members are as many as the map's entries
pub member_count-is : (es : List (String Global × Value)) → member_count (members_view es) ≡ length es
member_count-is [] = refl
member_count-is (e ∷ es) = ap suc (member_count-is es)
