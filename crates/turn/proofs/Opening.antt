-- The table as it is laid down keeps the turn rule, and the passes that are dealt.
use Rattle.std.proofs.Common.{◌≡◌, ℕ, ◌+◌, ◌<◌, ◌≤◌, zero, suc, true, false, cond, eqb, nat_lt, List, [], ◌∷◌, ◌++◌, length, refl, sym, ap, ◌∙◌, subst, inl, arith, Option, Some, None, add-one, length-append}
use Rattle.std.specs.Prelude.{All}
use Rattle.std.proofs.lemmas.Bool.Decides.{nat_tests}
use Rattle.std.proofs.lemmas.List.Sums.{sum_by-cons}
use Rattle.std.proofs.lemmas.List.Elements.{All-nil, All-push}
use mathlib.Core.List.{IsPrefix}
use mathlib.Core.Option.{some, some-injective, some-ne-none}
use lib.ListN.{get_elem?}
use Rattle.atomic_table.specs.Table.{Me, opening}
use Rattle.atomic_table.specs.Seated.{TableId}
use Rattle.turn.specs.Histories.{entries_by}
use Rattle.turn.specs.TurnRule.{times, is_live, numbers_of, IsSeat, TurnRule, first_view, IsIdle, IsSingle}
use Rattle.turn.specs.Passes.{Lock, Pass, Belongs, fresh_pass, fresh_passes}
use Rattle.turn.specs.declared.rule.View.{View}
use Rattle.turn.specs.declared.rule.Ended.{Ended}
use Rattle.turn.proofs.Places.{true_false, none_some, times_one}

first_number : (q : ℕ) → cond {A = ℕ} (eqb 0 q) 1 0 ≡ cond (nat_lt q 1) 1 0
first_number q = grind (arith, nat_tests)

module _ {O E S : Type 0} (list : S → List E) (opening_of : S → O) (number_of : E → ℕ) where
  at_first : (v : View O E) (i : ℕ) (u : View O E) → get_elem? (v ∷ []) i ≡ some u → (i ≡ 0) × (v ≡ u)
  at_first v zero u e = (refl, some-injective v u e)
  at_first v (suc i) u e = absurd (some-ne-none u (sym e))

  pub opens : (y : S) (seats : ℕ) → 0 < seats → seats ≤ 64 → list y ≡ [] → TurnRule list opening_of number_of (opening_of y) seats (opening (0 ∷ 0 ∷ 0 ∷ []) (Some y ∷ []) (first_view (opening_of y)))
  opens y seats low most empty = let v : View O E = first_view (opening_of y) in record {
    next = 0;
    serving = 0;
    log = [];
    words = refl;
    few = omega arith;
    most = most;
    counted = refl;
    apart = λ i j a b t ai bj ta tb. (at_first v i a ai).0 ∙ sym (at_first v j b bj).0;
    each = λ i u e. let is = at_first v i u e in subst (λ (x : ℕ × View O E). IsSeat number_of (opening_of y) 0 0 [] x.0 x.1) (λ k. (sym is.0 k, is.1 k)) record {
      spent = λ off. absurd (true_false true refl off);
      numbered = λ _. refl;
      opened = λ _. refl;
      ticket = λ t e. absurd (none_some None t refl e);
      turn = λ on. absurd (true_false false on refl);
      prefix = ([], refl);
      known = omega arith;
      own = λ _. refl;
      alone = λ _. (([], refl), refl);
      past = All-nil (λ (e : Ended E). IsPrefix e.seen [] × (entries_by number_of e.number [] ≡ entries_by number_of e.number e.seen));
    };
    longest = (0, v, refl, refl, refl);
    numbers = record {
      once = λ q. sum_by-cons (λ (u : View O E). times q (numbers_of u)) v [] ∙ (let h = times_one q 0 in let k = first_number q in omega arith);
      whole = refl;
    };
    maker = record {
      made = λ i u e _. sym (ap (λ (x : View O E). x.made) (at_first v i u e).1);
      one = λ i j a b ai bj _ _. (at_first v i a ai).0 ∙ sym (at_first v j b bj).0;
    };
    unborn = λ q _. refl;
    one_slot = refl;
    slot = inl (y, refl, empty, refl);
  }

module _ {O E : Type 0} where
  -- a seat that was just made, and knows that there are k
  abbrev pub made_view : O → ℕ → ℕ → View O E
  made_view o n k = record { opening = Some o; number = n; seen = []; known = 0; alone = []; ticket = None; turn = false; ended = []; made = k }

  pub made_idle : {S : Type 0} (o : O) (n k : ℕ) (m : Me (Option S) (View O E)) → m ≡ (made_view o n k, []) → IsIdle m × IsSingle m.0
  made_idle {S} o n k m e = (
    record { live = ap (λ (x : Me (Option S) (View O E)). is_live x.0) e; ticket = ap (λ (x : Me (Option S) (View O E)). x.0.ticket) e; turn = ap (λ (x : Me (Option S) (View O E)). x.0.turn) e; hand = ap (λ (x : Me (Option S) (View O E)). x.1) e },
    record { ended = ap (λ (x : Me (Option S) (View O E)). x.0.ended) e; alone = ap (λ (x : Me (Option S) (View O E)). x.0.alone) e ∙ sym (ap (λ (x : Me (Option S) (View O E)). x.0.seen) e) },
  )

  -- one more pass
  pub one_dealt : (home : TableId) (o : O) (n : ℕ) (passes : List (Pass O E)) → passes ≡ fresh_passes home o n → passes ++ fresh_pass home o n ∷ [] ≡ fresh_passes home o (n + 1)
  one_dealt home o n passes e = ap (λ (l : List (Pass O E)). l ++ fresh_pass home o n ∷ []) e ∙ sym (ap (fresh_passes home o) (add-one n))

  -- fresh passes of a lock belong to it
  pub fresh_belong : (t : Lock O) (n : ℕ) → All (λ (p : Pass O E). Belongs p t) (fresh_passes t.home t.opening n)
  fresh_belong t zero = All-nil (λ (p : Pass O E). Belongs p t)
  fresh_belong t (suc n) = All-push (λ (p : Pass O E). Belongs p t) (fresh_passes t.home t.opening n) (fresh_pass t.home t.opening n) (fresh_belong t n) (refl, refl)

pub length-fresh_passes : (O E : Type 0) (home : TableId) (o : O) (n : ℕ) → length (fresh_passes {E = E} home o n) ≡ n
length-fresh_passes O E home o zero = refl
length-fresh_passes O E home o (suc n) = let h = length-fresh_passes O E home o n in omega (arith, length-append (fresh_passes {E = E} home o n) (fresh_pass {E = E} home o n ∷ []))
