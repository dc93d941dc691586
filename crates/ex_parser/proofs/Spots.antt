-- Where a source can't be read: the machine begins an expression after each separator before which the tokens derive as a body, and after no other.
use Rattle.std.proofs.Common.{◌≡◌, ◌⊎◌, inl, inr, ◌≤◌, List, [], ◌∷◌, ◌++◌, length, sym, ap, ◌∙◌, subst, append_assoc, arith}
use Rattle.std.proofs.lemmas.List.{append-nil}
use Rattle.ex_grammar.specs.Tokens.{Token, Separator}
use Rattle.ex_grammar.specs.Trees.{Tree, Trees, NoTree}
use Rattle.ex_grammar.specs.Grammar as D
use Rattle.ex_grammar.specs.Grammar.{End, Derives, DeriveAll, DeriveSource, MaySeparate, without, with}
use Rattle.ex_parser.specs.Follow as F
use Rattle.ex_parser.specs.Machine.{Want, Done, Stuck, Reaches}
use Rattle.ex_parser.proofs.Fronts.{begins_more, all_begin}
use Rattle.ex_parser.proofs.Reach.{skips}
use Rattle.ex_parser.proofs.Inverses.{separated}
use Rattle.ex_parser.proofs.Laws.{one_end, comes_to, front_shorter}

-- no two separators stand together
abbrev pub Single : List Token → Type 0
Single [] = Unit {0}
Single (Separator ∷ Separator ∷ ts) = ⊥
Single (t ∷ ts) = Single ts

-- the machine, begun at these tokens, comes to begin an expression at those, after at least one
pub data Beyond : List Token → List Token → Type 0 where
  once : {cur rest : List Token} {t : Tree} → Reaches (Want [] cur) (Done t (Separator ∷ rest)) → Beyond cur rest
  more : {cur mid rest : List Token} {t : Tree} → Reaches (Want [] cur) (Done t (Separator ∷ mid)) → Beyond mid rest → Beyond cur rest

-- the tokens before a separator and these are a body
pub record IsBody (all rest : List Token) : Type 0 where
  pub before : List Token
  pub trees : Trees
  pub derives : DeriveSource before trees
  pub split : all ≡ before ++ Separator ∷ rest

-- expressions before a separator are passed
all_passes : {ts : List Token} {xs : Trees} → DeriveAll ts xs → (rest : List Token) → Beyond (ts ++ Separator ∷ rest) rest
all_passes (D.last_one {ts = ts} {t} d) rest = once (comes_to ts (Separator ∷ rest) t d tt)
all_passes (D.one_more {ts = ts} {us} {t} d ds) rest = subst (λ w. Beyond w rest) (sym (append_assoc ts (Separator ∷ us) (Separator ∷ rest))) (more (comes_to ts (Separator ∷ (us ++ Separator ∷ rest)) t d tt) (all_passes ds rest))

pub no_double : (ts us : List Token) → Single (ts ++ Separator ∷ Separator ∷ us) → ⊥
no_double [] us s = s
no_double (Separator ∷ []) us s = s
no_double (Separator ∷ Separator ∷ ts) us s = s
no_double (Separator ∷ t ∷ ts) us s = no_double (t ∷ ts) us s
no_double (t ∷ ts) us s = no_double ts us s

-- the first separator, or the begin
abbrev pub FirstBody : List Token → List Token → Type 0
FirstBody all rest = all ≡ Separator ∷ rest

body_passes : {all rest before : List Token} {trees : Trees} → Single all → DeriveSource before trees → all ≡ before ++ Separator ∷ rest → FirstBody all rest ⊎ Beyond (F.after_separator all) rest
body_passes s (D.no_expression without) e = inl e
body_passes {all} {rest} s (D.no_expression with) e = absurd (no_double [] rest (subst Single e s))
body_passes {all} {rest} s (D.expressions {ts} {sep} {xs = xs} m d without) e =
    let split : all ≡ sep ++ (ts ++ Separator ∷ rest) = e ∙ (ap (λ w. (sep ++ w) ++ Separator ∷ rest) (append-nil ts) ∙ append_assoc sep ts (Separator ∷ rest)) in
    inr (subst (λ w. Beyond w rest) (sym (ap F.after_separator split ∙ skips m (ts ++ Separator ∷ rest) (begins_more ts _ (all_begin d)))) (all_passes d rest))
body_passes {all} {rest} s (D.expressions {ts} {sep} {xs = xs} m d with) e =
    absurd (no_double (sep ++ ts) rest (subst Single (e ∙ (ap (λ w. w ++ Separator ∷ rest) (sym (append_assoc sep ts (Separator ∷ []))) ∙ append_assoc (sep ++ ts) (Separator ∷ []) (Separator ∷ rest))) s))

-- the machine passes one line of places
pub one_line : {cur next rest : List Token} {t : Tree} → Reaches (Want [] cur) (Done t (Separator ∷ next)) → Beyond cur rest → (next ≡ rest) ⊎ Beyond next rest
one_line r (once q) = inl (let e = one_end r tt q tt in cc)
one_line {next = next} {rest} r (more {mid = mid} q b) = inr (let e = one_end r tt q tt in let s : mid ≡ next = cc in subst (λ v. Beyond v rest) s b)

pub stuck_line : {cur rest : List Token} → Reaches (Want [] cur) Stuck → Beyond cur rest → ⊥
stuck_line r (once q) = let e = one_end r tt q tt in cc
stuck_line r (more q b) = let e = one_end r tt q tt in cc

pub off_line : {cur off rest : List Token} {t : Tree} → Reaches (Want [] cur) (Done t off) → ((after : List Token) → off ≡ Separator ∷ after → ⊥) → Beyond cur rest → ⊥
off_line {rest = rest} r never (once q) = never rest (let e = one_end r tt q tt in cc)
off_line r never (more {mid = mid} q b) = never mid (let e = one_end r tt q tt in cc)

-- where the machine begins an expression: what stands before is a body, or it is the begin; and no body that it has passed is longer
pub record Spot (all cur : List Token) : Type 0 where
  pub begun : IsBody all cur ⊎ ((cur ≡ all) × (F.after_separator all ≡ all))
  pub latest : (rest : List Token) → IsBody all rest → ((length cur ≤ length rest) × (IsBody all cur)) ⊎ Beyond cur rest

pub spot_start : (all : List Token) → Single all → Spot all (F.after_separator all)
spot_start all s = of (separated all)
  where
    cur : List Token
    cur = F.after_separator all

    of : (sep : List Token) × MaySeparate sep × (all ≡ sep ++ F.after_separator all) → Spot all (F.after_separator all)
    of h = by h.1 h.2
      where
        latest_of : (IsBody all (F.after_separator all)) → (rest : List Token) → IsBody all rest → ((length (F.after_separator all) ≤ length rest) × (IsBody all (F.after_separator all))) ⊎ Beyond (F.after_separator all) rest
        latest_of b rest k = go (body_passes s k.derives k.split)
          where
            go : FirstBody all rest ⊎ Beyond (F.after_separator all) rest → ((length (F.after_separator all) ≤ length rest) × (IsBody all (F.after_separator all))) ⊎ Beyond (F.after_separator all) rest
            go (inl e) = inl (let f : F.after_separator all ≡ rest = ap F.after_separator e in (omega (arith, ap length f), b))
            go (inr p) = inr p

        by : {sep : List Token} → MaySeparate sep → all ≡ sep ++ F.after_separator all → Spot all (F.after_separator all)
        by without e = record { begun = inr (sym e, sym e); latest = λ rest k. plain rest e k (body_passes s k.derives k.split) }
          where
            never : (ts rest : List Token) → ts ≡ F.after_separator ts → ts ≡ Separator ∷ rest → ⊥
            never ts rest e f = let g : Separator ∷ rest ≡ rest = sym f ∙ (e ∙ ap F.after_separator f) in omega (arith, ap length g)

            plain : (rest : List Token) → all ≡ F.after_separator all → IsBody all rest → FirstBody all rest ⊎ Beyond (F.after_separator all) rest → ((length (F.after_separator all) ≤ length rest) × (IsBody all (F.after_separator all))) ⊎ Beyond (F.after_separator all) rest
            plain rest e k (inl f) = absurd (never all rest e f)
            plain rest e k (inr p) = inr p
        by with e = let b : IsBody all (F.after_separator all) = record { before = []; trees = NoTree; derives = D.no_expression without; split = e } in record { begun = inl b; latest = latest_of b }

pub spot_more : (all cur next before : List Token) (trees : Trees) (t : Tree) → Spot all cur → DeriveSource before trees → all ≡ before ++ Separator ∷ next → Reaches (Want [] cur) (Done t (Separator ∷ next)) → Spot all next
spot_more all cur next before trees t s d split r = record { begun = inl b; latest = λ rest k. of rest k (s.latest rest k) }
  where
    b : IsBody all next
    b = record { before = before; trees = trees; derives = d; split = split }

    of : (rest : List Token) → IsBody all rest → ((length cur ≤ length rest) × (IsBody all cur)) ⊎ Beyond cur rest → ((length next ≤ length rest) × (IsBody all next)) ⊎ Beyond next rest
    of rest k (inl h) = inl (omega (arith, h.0, front_shorter cur t (Separator ∷ next) r), b)
    of rest k (inr p) = on (one_line r p)
      where
        on : (next ≡ rest) ⊎ Beyond next rest → ((length next ≤ length rest) × (IsBody all next)) ⊎ Beyond next rest
        on (inl e) = inl (omega (arith, ap length e), b)
        on (inr q) = inr q
