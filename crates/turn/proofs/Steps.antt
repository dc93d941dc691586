-- Each step of a seat keeps the turn rule: draw, look, publish, serve, and reading the length.
use Rattle.std.proofs.Common.{◌≡◌, ◌≢◌, ℕ, ◌+◌, ◌%◌, ◌^◌, ◌<◌, ◌≤◌, zero, suc, Bool, true, false, List, [], ◌∷◌, ◌++◌, length, get_or, set, refl, sym, ap, ◌∙◌, subst, ⊎_elim, inl, inr, arith, length-set, Option, Some, None, ◌⊎◌}
use Rattle.std.specs.Prelude.{is_some, All}
use Rattle.std.proofs.Math.Nat.{mod-add-mod}
use mathlib.Core.Logic.{dite}
use mathlib.Core.List.{IsPrefix}
use native.Mathlib.Decide.{ℕ_discrete}
use mathlib.Core.Option.{none, some, some-injective}
use lib.ListN.{get_elem?}
use Rattle.atomic_table.specs.Table.{State, Me, step, keeps, takes, gives, homes_after, rest, Allows}
use Rattle.atomic_table.proofs.Lists.{set_again, one_turn, set_here}
use Rattle.turn.specs.Histories.{entries_by, Extends}
use Rattle.turn.specs.TurnRule.{ticket_count, is_live, IsSeat, SomeTurn, IsHome, TurnRule, with_ticket, in_turn, Drew, Looked, Published, Served, Told}
use Rattle.turn.specs.declared.rule.View.{View}
use Rattle.turn.specs.declared.rule.Ended.{Ended}
use Rattle.turn.proofs.Entries.{prefix_refl, prefix_trans, prefix_length, known_longer, extends_prefix, extends_other}
use Rattle.turn.proofs.Places.{true_false, none_some, at_inside, each_set, sum_set, drawn_le, apart_set, turn_set, seen_set, numbered_set, maker_set, number_apart}

pub same_ticket : (a b : ℕ) → Some a ≡ Some b → a ≡ b
same_ticket a b e = cc

module _ {O E S : Type 0} (list : S → List E) (opening_of : S → O) (number_of : E → ℕ) (o : O) (seats : ℕ) where
  abbrev V : Type 0
  V = View O E

  abbrev St : Type 0
  St = State (Option S) V

  abbrev M : Type 0
  M = Me (Option S) V

  abbrev R : St → Type 0
  R = TurnRule list opening_of number_of o seats

  abbrev in_hand : S → List (ℕ × Option S)
  in_hand y = (0, Some y) ∷ []

  same_state : (y z : S) → in_hand y ≡ in_hand z → y ≡ z
  same_state y z e = ap (λ (c : List (ℕ × Option S)). elim c as (λ _. S) [ [] ↦ y | x ∷ xs ↦ elim x.1 as (λ _. S) [ None ↦ y | Some v ↦ v ] ]) e

  same_opening : (a b : O) → Some a ≡ Some b → a ≡ b
  same_opening a b e = ap (λ (x : Option O). elim x as (λ _. O) [ None ↦ a | Some y ↦ y ]) e

  lives : (v : V) (x : O) → v.opening ≡ Some x → is_live v ≡ true
  lives v x is = ap is_some is

  -- a seat that does not change, while a ticket is drawn
  later : (next serving : ℕ) (log : List E) (j : ℕ) (u : V) → IsSeat number_of o next serving log j u → IsSeat number_of o (next + 1) serving log j u
  later next serving log j u f = record {
    spent = f.spent;
    numbered = f.numbered;
    opened = f.opened;
    ticket = λ t e. let h = f.ticket t e in let a = h.0 in let b = h.1 in (a, omega arith);
    turn = f.turn;
    prefix = f.prefix;
    known = f.known;
    own = f.own;
    alone = f.alone;
    past = f.past;
  }

  pub draws : (slots id : ℕ) (me : M) → is_live me.0 ≡ true → me.0.ticket ≡ None → me.0.turn ≡ false → Allows R slots id me 0 (λ n. (n + 1) % 2 ^ 64) (Drew list opening_of number_of (step slots 0 1 0 none) me)
  draws slots id me live none_yet off s r _ at _ =
      let w : V = with_ticket list opening_of number_of me.0 (Some r.next) in let mine = r.each id me.0 at in (
        w,
        keeps,
        tt,
        record {
          next = r.next + 1;
          serving = r.serving;
          log = r.log;
          words = ap (λ (ws : List ℕ). set ws 0 ((get_or ws 0 0 + 1) % 2 ^ 64)) r.words ∙ ap (λ (n : ℕ). n ∷ r.serving % 2 ^ 64 ∷ length r.log ∷ []) (mod-add-mod r.next (2 ^ 64) 1);
          few = let e = length-set s.views id w in let f = r.few in omega arith;
          most = r.most;
          counted = let e = sum_set ticket_count s.views id me.0 w at in let z : ticket_count me.0 ≡ 0 = ap (λ (t : Option ℕ). Rattle.std.proofs.Common.cond (is_some t) 1 0) none_yet in let c = r.counted in omega arith;
          apart = apart_set s.views id w r.apart (λ j u t _ e tu tw. let h = (r.each j u e).ticket t tu in let l = h.1 in let same : r.next ≡ t = same_ticket r.next t tw in omega arith);
          each = each_set (IsSeat number_of o (r.next + 1) r.serving r.log) s.views id w record {
            spent = λ off. absurd (true_false (is_live me.0) live off);
            numbered = mine.numbered;
            opened = mine.opened;
            ticket = λ t e. let same : r.next ≡ t = same_ticket r.next t e in let c = r.counted in (omega arith, omega arith);
            turn = λ on. absurd (true_false false on refl);
            prefix = mine.prefix;
            known = mine.known;
            own = mine.own;
            alone = mine.alone;
            past = mine.past;
          } (λ j u _ e. later r.next r.serving r.log j u (r.each j u e));
          longest = seen_set s.views id me.0 w r.log at live (λ e. e) r.longest;
          numbers = numbered_set s.views id me.0 w r.numbers at refl;
          maker = maker_set s.views id me.0 w r.maker at refl;
          unborn = λ q far. r.unborn q (let e = length-set s.views id w in omega arith);
          one_slot = r.one_slot;
          slot = ⊎_elim inl (λ (x : SomeTurn s.views). inr (turn_set s.views id me.0 w at off x)) r.slot;
        },
        (r.next, ap (λ (ws : List ℕ). get_or ws 0 0) r.words, refl),
      )

  -- a drawn ticket whose remainder is served is the one that is served
  now_served : (s : St) (r : R s) (t : ℕ) → r.serving ≤ t → t < r.next → r.serving % 2 ^ 64 ≡ t % 2 ^ 64 → r.serving ≡ t
  now_served s r t low high e = let d = drawn_le s.views in let f = r.few in let m = r.most in let c = r.counted in let near : t < r.serving + 2 ^ 64 = omega arith in one_turn r.serving t (2 ^ 64) low near e

  -- a load leaves the words
  same_words : (s : St) (r : R s) → set s.words 1 (get_or s.words 1 0) ≡ s.words
  same_words s r = let P : List ℕ → Type 0 = λ ws. set ws 1 (get_or ws 1 0) ≡ ws in subst P (sym r.words) refl

  -- where the ticket that is served is this seat's, and its turn has not come yet, the state is at home
  at_home : (s : St) (r : R s) (id : ℕ) (v : V) → get_elem? s.views id ≡ some v → v.ticket ≡ Some r.serving → v.turn ≡ false → IsHome list opening_of number_of o r.log s.homes
  at_home s r id v at is off = ⊎_elim (λ (x : IsHome list opening_of number_of o r.log s.homes). x) (λ (x : SomeTurn s.views).
      let theirs = (r.each x.0 x.1 x.2).turn x.3 in
      let same : x.0 ≡ id = r.apart x.0 id x.1 v r.serving x.2 at theirs.0 is in
      let same_view : x.1 ≡ v = some-injective x.1 v (sym x.2 ∙ (ap (get_elem? s.views) same ∙ at)) in
      absurd (true_false v.turn (sym (ap (λ (u : V). u.turn) same_view) ∙ x.3) off)) r.slot

  pub looks : (slots id : ℕ) (me : M) (t : ℕ) → is_live me.0 ≡ true → me.1 ≡ [] → me.0.ticket ≡ Some t → me.0.turn ≡ false → Allows R slots id me 1 (λ n. n) (Looked list opening_of number_of (step slots 1 0 0 none) me)
  looks slots id me t live empty drawn_t off s r _ at _ =
      let mine = r.each id me.0 at in let is_o = mine.opened live in let range = mine.ticket t drawn_t in
      let word : get_or s.words 1 0 ≡ r.serving % 2 ^ 64 = ap (λ (ws : List ℕ). get_or ws 1 0) r.words in
      dite (ℕ_discrete (get_or s.words 1 0) (t % 2 ^ 64))
      (λ hit. let now : r.serving ≡ t = now_served s r t range.0 range.1 (sym word ∙ hit) in
      let home = at_home s r id me.0 at (drawn_t ∙ ap Some (sym now)) off in
      let w : V = in_turn list opening_of number_of me.0 (list home.0) in (
        w,
        takes 0 (Some home.0),
        home.1,
        record {
          next = r.next;
          serving = r.serving;
          log = r.log;
          words = same_words s r ∙ r.words;
          few = let e = length-set s.views id w in let f = r.few in omega arith;
          most = r.most;
          counted = let e = sum_set ticket_count s.views id me.0 w at in let c = r.counted in omega arith;
          apart = apart_set s.views id w r.apart (λ j u t other e tu tw. other (r.apart j id u me.0 t e at tu tw));
          each = each_set (IsSeat number_of o r.next r.serving r.log) s.views id w record {
            spent = λ off. absurd (true_false (is_live me.0) live off);
            numbered = mine.numbered;
            opened = mine.opened;
            ticket = mine.ticket;
            turn = λ _. (drawn_t ∙ ap Some (sym now), home.2);
            prefix = subst (λ (l : List E). IsPrefix l r.log) (sym home.2) (prefix_refl r.log);
            known = mine.known;
            own = λ _. ap (entries_by number_of id) (sym home.2);
            alone = λ _. (subst (λ (l : List E). IsPrefix l r.log) (sym home.2) (prefix_refl r.log), ap (entries_by number_of id) (sym home.2));
            past = mine.past;
          } (λ j u _ e. r.each j u e);
          longest = seen_set s.views id me.0 w r.log at live (λ _. home.2) r.longest;
          numbers = numbered_set s.views id me.0 w r.numbers at refl;
          maker = maker_set s.views id me.0 w r.maker at refl;
          unborn = λ q far. r.unborn q (let e = length-set s.views id w in omega arith);
          one_slot = length-set s.homes 0 none ∙ r.one_slot;
          slot = inr (id, w, set_here s.views id w (at_inside s.views id me.0 at), refl);
        },
        λ u theirs. let same : t ≡ u = same_ticket t u (sym drawn_t ∙ theirs) in (
          (λ _. (
            home.0,
            ap (λ (c : List (ℕ × Option S)). (in_turn list opening_of number_of me.0 (list home.0), (0, Some home.0) ∷ c)) empty,
            record {
              found = record {
                begins = subst (λ (l : List E). IsPrefix me.0.seen l) (sym home.2) mine.prefix;
                own = subst (λ (p : ℕ). entries_by number_of p (list home.0) ≡ entries_by number_of p me.0.seen) (sym (mine.numbered live)) (ap (entries_by number_of id) home.2 ∙ mine.own live);
                known = subst (λ (l : List E). me.0.known ≤ length l) (sym home.2) mine.known;
              };
              opened = is_o ∙ ap Some (sym home.3);
            },
          )),
          (λ miss. absurd (miss (hit ∙ ap (λ (n : ℕ). n % 2 ^ 64) same))),
        ),
      ))
      (λ miss. (
        me.0,
        keeps,
        tt,
        subst R (λ i. record { words = sym (same_words s r) i; homes = s.homes; views = sym (set_again s.views id me.0 at) i }) r,
        λ u theirs. let same : t ≡ u = same_ticket t u (sym drawn_t ∙ theirs) in ((λ hit. absurd (miss (hit ∙ ap (λ (n : ℕ). n % 2 ^ 64) (sym same)))), (λ _. refl)),
      ))

  pub publishes : (slots id : ℕ) (me : M) (y : S) (n : ℕ) → me.0.opening ≡ Some (opening_of y) → n ≡ length (list y) → me.0.turn ≡ true → me.1 ≡ (0, Some y) ∷ [] → Extends number_of me.0.number me.0.seen (list y)
      → Allows R slots id me 2 (λ _. n) (λ _. Published list opening_of number_of (step slots 2 n 0 none) me n)
  publishes slots id me y n is_y is_len on has extends s r _ at _ =
      let live = lives me.0 (opening_of y) is_y in let mine = r.each id me.0 at in let now = mine.turn on in let w : V = in_turn list opening_of number_of me.0 (list y) in
      let grown : Extends number_of id r.log (list y) = subst (λ (x : ℕ × List E). Extends number_of x.0 x.1 (list y)) (λ i. (mine.numbered live i, now.1 i)) extends in
      let longer_by = extends_prefix number_of id r.log (list y) grown in
      let past_stays : (j : ℕ) (u : V) → get_elem? s.views j ≡ some u → All (λ (e : Ended E). IsPrefix e.seen (list y) × (entries_by number_of e.number (list y) ≡ entries_by number_of e.number e.seen)) u.ended = λ j u uj k d inside.
      let e : Ended E = get_or u.ended k d in let old = (r.each j u uj).past k d inside in
      let apart = number_apart s.views id me.0 r.numbers at live (mine.numbered live) (λ x dead i xi. (r.each i x xi).spent dead) j u uj k d inside in
      (prefix_trans e.seen r.log (list y) old.0 longer_by, extends_other number_of id e.number r.log (list y) apart grown ∙ old.1) in (
        w,
        keeps,
        tt,
        record {
          next = r.next;
          serving = r.serving;
          log = list y;
          words = ap (λ (ws : List ℕ). set ws 2 n) r.words ∙ ap (λ (k : ℕ). r.next % 2 ^ 64 ∷ r.serving % 2 ^ 64 ∷ k ∷ []) is_len;
          few = let e = length-set s.views id w in let f = r.few in omega arith;
          most = r.most;
          counted = let e = sum_set ticket_count s.views id me.0 w at in let c = r.counted in omega arith;
          apart = apart_set s.views id w r.apart (λ j u t other e tu tw. other (r.apart j id u me.0 t e at tu tw));
          each = each_set (IsSeat number_of o r.next r.serving (list y)) s.views id w record {
            spent = λ off. absurd (true_false (is_live me.0) live off);
            numbered = mine.numbered;
            opened = mine.opened;
            ticket = mine.ticket;
            turn = λ _. (now.0, refl);
            prefix = prefix_refl (list y);
            known = known_longer me.0.known r.log (list y) longer_by mine.known;
            own = λ _. refl;
            alone = λ _. (prefix_refl (list y), refl);
            past = past_stays id me.0 at;
          } (λ j u other e. let f = r.each j u e in record {
            spent = f.spent;
            numbered = f.numbered;
            opened = f.opened;
            ticket = f.ticket;
            turn = λ u_on. absurd (other (r.apart j id u me.0 r.serving e at (f.turn u_on).0 now.0));
            prefix = prefix_trans u.seen r.log (list y) f.prefix longer_by;
            known = known_longer u.known r.log (list y) longer_by f.known;
            own = λ on_j. extends_other number_of id j r.log (list y) other grown ∙ f.own on_j;
            alone = λ on_j. let a = f.alone on_j in (prefix_trans u.alone r.log (list y) a.0 longer_by, extends_other number_of id j r.log (list y) other grown ∙ a.1);
            past = past_stays j u e;
          });
          longest = (id, w, set_here s.views id w (at_inside s.views id me.0 at), live, refl);
          numbers = numbered_set s.views id me.0 w r.numbers at refl;
          maker = maker_set s.views id me.0 w r.maker at refl;
          unborn = λ q far. let e = length-set s.views id w in let inside = at_inside s.views id me.0 at in extends_other number_of id q r.log (list y) (λ is. omega arith) grown ∙ r.unborn q (omega arith);
          one_slot = r.one_slot;
          slot = inr (id, w, set_here s.views id w (at_inside s.views id me.0 at), refl);
        },
        λ z is. ap (λ (l : List E). (in_turn list opening_of number_of me.0 l, me.1)) (ap list (same_state y z (sym has ∙ is))),
      )

  pub serves : (slots id : ℕ) (me : M) (y : S) → me.0.opening ≡ Some (opening_of y) → me.0.turn ≡ true → me.1 ≡ (0, Some y) ∷ [] → list y ≡ me.0.seen
      → Allows R slots id me 1 (λ n. (n + 1) % 2 ^ 64) (Served list opening_of number_of (step slots 1 1 0 none) me)
  serves slots id me y is_y on has seen s r _ at _ =
      let live = lives me.0 (opening_of y) is_y in let mine = r.each id me.0 at in let same_o : opening_of y ≡ o = same_opening (opening_of y) o (sym is_y ∙ mine.opened live) in let now = mine.turn on in
      let w : V = with_ticket list opening_of number_of me.0 None in let range = mine.ticket r.serving now.0 in (
        w,
        gives,
        tt,
        record {
          next = r.next;
          serving = r.serving + 1;
          log = r.log;
          words = ap (λ (ws : List ℕ). set ws 1 ((get_or ws 1 0 + 1) % 2 ^ 64)) r.words ∙ ap (λ (n : ℕ). r.next % 2 ^ 64 ∷ n ∷ length r.log ∷ []) (mod-add-mod r.serving (2 ^ 64) 1);
          few = let e = length-set s.views id w in let f = r.few in omega arith;
          most = r.most;
          counted = let e = sum_set ticket_count s.views id me.0 w at in let z : ticket_count me.0 ≡ 1 = ap (λ (t : Option ℕ). Rattle.std.proofs.Common.cond (is_some t) 1 0) now.0 in let c = r.counted in omega arith;
          apart = apart_set s.views id w r.apart (λ j u t other e tu tw. none_some None t refl tw);
          each = each_set (IsSeat number_of o r.next (r.serving + 1) r.log) s.views id w record {
            spent = λ off. absurd (true_false (is_live me.0) live off);
            numbered = mine.numbered;
            opened = mine.opened;
            ticket = λ t e. absurd (none_some None t refl e);
            turn = λ off. absurd (true_false false off refl);
            prefix = mine.prefix;
            known = mine.known;
            own = mine.own;
            alone = mine.alone;
            past = mine.past;
          } (λ j u other e. let f = r.each j u e in record {
            spent = f.spent;
            numbered = f.numbered;
            opened = f.opened;
            ticket = λ t tu. let h = f.ticket t tu in let a = h.0 in let ne : r.serving ≢ t = λ eq. other (r.apart j id u me.0 t e at tu (now.0 ∙ ap Some eq)) in (omega arith, h.1);
            turn = λ u_on. absurd (other (r.apart j id u me.0 r.serving e at (f.turn u_on).0 now.0));
            prefix = f.prefix;
            known = f.known;
            own = f.own;
            alone = f.alone;
            past = f.past;
          });
          longest = seen_set s.views id me.0 w r.log at live (λ e. e) r.longest;
          numbers = numbered_set s.views id me.0 w r.numbers at refl;
          maker = maker_set s.views id me.0 w r.maker at refl;
          unborn = λ q far. r.unborn q (let e = length-set s.views id w in omega arith);
          one_slot = let P : List (ℕ × Option S) → Type 0 = λ c. length (homes_after s.homes c gives) ≡ 1 in subst P (sym has) (length-set s.homes 0 (some (Some y)) ∙ r.one_slot);
          slot = inl (y, (let P : List (ℕ × Option S) → Type 0 = λ c. get_elem? (homes_after s.homes c gives) 0 ≡ some (some (Some y)) in subst P (sym has) (set_here s.homes 0 (some (Some y)) (let l = r.one_slot in omega arith))), seen ∙ now.1, same_o);
        },
        ap (λ (c : List (ℕ × Option S)). (with_ticket list opening_of number_of me.0 None, rest c)) has,
      )

  -- the seat reads the length, which is at least what it has seen and what it was told
  pub tells : (slots id : ℕ) (me : M) → is_live me.0 ≡ true → me.0.turn ≡ false → Allows R slots id me 2 (λ n. n) (Told list opening_of number_of (step slots 2 0 0 none) me)
  tells slots id me live off s r _ at _ =
      let mine = r.each id me.0 at in let n : ℕ = get_or s.words 2 0 in let w : V = record me.0 { known = n } in
      let word : n ≡ length r.log = ap (λ (ws : List ℕ). get_or ws 2 0) r.words in
      let same : set s.words 2 n ≡ s.words = (let P : List ℕ → Type 0 = λ ws. set ws 2 (get_or ws 2 0) ≡ ws in subst P (sym r.words) refl) in
      let len = prefix_length me.0.seen r.log mine.prefix in let before = mine.known in (
        w,
        keeps,
        tt,
        record {
          next = r.next;
          serving = r.serving;
          log = r.log;
          words = same ∙ r.words;
          few = let e = length-set s.views id w in let f = r.few in omega arith;
          most = r.most;
          counted = let e = sum_set ticket_count s.views id me.0 w at in let c = r.counted in omega arith;
          apart = apart_set s.views id w r.apart (λ j u t other e tu tw. other (r.apart j id u me.0 t e at tu tw));
          each = each_set (IsSeat number_of o r.next r.serving r.log) s.views id w record {
            spent = λ dead. absurd (true_false (is_live me.0) live dead);
            numbered = mine.numbered;
            opened = mine.opened;
            ticket = mine.ticket;
            turn = mine.turn;
            prefix = mine.prefix;
            known = omega arith;
            own = mine.own;
            alone = mine.alone;
            past = mine.past;
          } (λ j u _ e. r.each j u e);
          longest = seen_set s.views id me.0 w r.log at live (λ e. e) r.longest;
          numbers = numbered_set s.views id me.0 w r.numbers at refl;
          maker = maker_set s.views id me.0 w r.maker at refl;
          unborn = λ q far. r.unborn q (let e = length-set s.views id w in omega arith);
          one_slot = r.one_slot;
          slot = ⊎_elim inl (λ (x : SomeTurn s.views). inr (turn_set s.views id me.0 w at off x)) r.slot;
        },
        (omega arith, omega arith, refl),
      )
