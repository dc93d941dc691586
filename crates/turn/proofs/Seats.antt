-- A seat that is split off and two seats that are joined keep the turn rule.
use Rattle.std.proofs.Common.{◌≡◌, ◌≢◌, ℕ, ◌+◌, ◌<◌, true, false, cond, eqb, nat_lt, max, List, [], ◌∷◌, ◌++◌, length, set, refl, sym, ap, ◌∙◌, subst, ⊎_elim, inl, inr, arith, length-set, length-append, Option, None, ◌⊎◌}
use Rattle.std.specs.Prelude.{is_some, sum_by}
use Rattle.std.proofs.lemmas.Bool.Decides.{nat_tests}
use Rattle.std.proofs.lemmas.List.Sums.{sum_by_push}
use Rattle.std.proofs.lemmas.List.Elements.{All-nil, All-cons, All-append}
use Rattle.std.proofs.lemmas.List.{map-append}
use mathlib.Core.Logic.{dite}
use mathlib.Core.List.{IsPrefix}
use native.Mathlib.Decide.{ℕ_discrete, dec_lt}
use mathlib.Core.Option.{some, some-injective}
use lib.ListN.{get_elem?}
use Rattle.atomic_table.specs.Table.{State, Splits, Joins}
use Rattle.atomic_table.proofs.Lists.{set_else, set_here, at_longer}
use Rattle.turn.specs.Histories.{entries_by}
use Rattle.turn.specs.TurnRule.{times, ticket_count, is_live, numbers_of, spent_view, IsSeat, AreNumbered, HaveMaker, SomeTurn, SomeSeen, TurnRule, hands_on, new_seat, end_of, joined}
use Rattle.turn.specs.declared.rule.View.{View}
use Rattle.turn.specs.declared.rule.Ended.{Ended}
use Rattle.turn.proofs.Entries.{prefix_longer, longer_whole, entries_longer, entries_none}
use Rattle.turn.proofs.Places.{true_false, none_some, at_inside, each_set, each_end, one_more, sum_set, times_one, times_append, ended_numbers, live_numbers, apart_set, apart_end, turn_set, seen_set, numbered_set}

one_longer : (q n : ℕ) → cond (nat_lt q n) 1 0 + cond (eqb n q) 1 0 ≡ cond (nat_lt q (n + 1)) 1 0
one_longer q n = grind (arith, nat_tests)

some_max : (a b : ℕ) → 0 < max a b → ¬ (0 < a) → 0 < b
some_max a b h n = omega arith

module _ {O E : Type 0} where
  numbered_end : (vs : List (View O E)) (w : View O E) → AreNumbered vs → numbers_of w ≡ length vs ∷ [] → AreNumbered (vs ++ w ∷ [])
  numbered_end vs w n is = let more = one_more vs w in record {
    once = λ q. let f : View O E → ℕ = λ u. times q (numbers_of u) in let s = sum_by_push f vs w in let h : f w ≡ cond (eqb (length vs) q) 1 0 = ap (times q) is ∙ times_one q (length vs) in
        let o = n.once q in let e : sum_by f (vs ++ w ∷ []) ≡ cond (nat_lt q (length vs)) 1 0 + cond (eqb (length vs) q) 1 0 = omega arith in
        e ∙ (one_longer q (length vs) ∙ ap (λ (k : ℕ). cond (nat_lt q k) 1 0) (sym more));
    whole = let f : View O E → ℕ = λ u. length (numbers_of u) in let s = sum_by_push f vs w in let h : f w ≡ 1 = ap length is in let o = n.whole in omega arith;
  }

  maker_split : (vs : List (View O E)) (id : ℕ) (v : View O E) → HaveMaker vs → get_elem? vs id ≡ some v → 0 < v.made → HaveMaker (set vs id (hands_on v) ++ new_seat v ∷ [])
  maker_split vs id v m at some_made = let w : View O E = hands_on v in let n : View O E = new_seat v in let mid : List (View O E) = set vs id w in
      let len = length-set vs id w in let more = one_more mid n in let made = m.made id v at some_made in
      let only : (i : ℕ) (a : View O E) → get_elem? (mid ++ n ∷ []) i ≡ some a → 0 < a.made → (i ≡ length mid) × (a.made ≡ v.made + 1) = each_end (λ i a. 0 < a.made → (i ≡ length mid) × (a.made ≡ v.made + 1)) mid n
      (each_set (λ i a. 0 < a.made → (i ≡ length mid) × (a.made ≡ v.made + 1)) vs id w (λ h. absurd (omega arith)) (λ j u other e h. absurd (other (m.one j id u v e at h some_made)))) (λ _. (refl, refl)) in record {
        made = λ i a ai h. let o = (only i a ai h).1 in omega arith;
        one = λ i j a b ai bj ma mb. (only i a ai ma).0 ∙ sym (only j b bj mb).0;
      }

  joined_numbers : (v w : View O E) → is_live v ≡ true → is_live w ≡ true → numbers_of (joined v w) ≡ numbers_of v ++ numbers_of w
  joined_numbers v w live live' = live_numbers (joined v w) live ∙ (ap (λ (l : List ℕ). v.number ∷ l) (map-append (λ (e : Ended E). e.number) v.ended (end_of w ∷ w.ended))
      ∙ sym (ap (λ (l : List ℕ). l ++ numbers_of w) (live_numbers v live) ∙ ap (λ (l : List ℕ). (v.number ∷ ended_numbers v.ended) ++ l) (live_numbers w live')))

  numbered_join : (vs : List (View O E)) (id : ℕ) (v : View O E) (other : ℕ) (w : View O E) → AreNumbered vs → is_live v ≡ true → is_live w ≡ true → get_elem? vs id ≡ some v → get_elem? (set vs id (joined v w)) other ≡ some w
      → AreNumbered (set (set vs id (joined v w)) other spent_view)
  numbered_join vs id v other w n live live' at there = let b : View O E = joined v w in let z : View O E = spent_view in let mid : List (View O E) = set vs id b in
      let len = length-set vs id b in let len' = length-set mid other z in let same = joined_numbers v w live live' in record {
        once = λ q. let f : View O E → ℕ = λ u. times q (numbers_of u) in let s = sum_set f vs id v b at in let t = sum_set f mid other w z there in
            let h : f b ≡ f v + f w = ap (times q) same ∙ times_append q (numbers_of v) (numbers_of w) in let k : f z ≡ 0 = refl in
            let o = n.once q in let e : sum_by f (set mid other z) ≡ sum_by f vs = omega arith in e ∙ (o ∙ ap (λ (k : ℕ). cond (nat_lt q k) 1 0) (sym (len' ∙ len)));
        whole = let f : View O E → ℕ = λ u. length (numbers_of u) in let s = sum_set f vs id v b at in let t = sum_set f mid other w z there in
            let h : f b ≡ f v + f w = ap length same ∙ length-append (numbers_of v) (numbers_of w) in let k : f z ≡ 0 = refl in let o = n.whole in omega arith;
      }

  maker_join : (vs : List (View O E)) (id : ℕ) (v : View O E) (other : ℕ) (w : View O E) → HaveMaker vs → id ≢ other → get_elem? vs id ≡ some v → get_elem? vs other ≡ some w → HaveMaker (set (set vs id (joined v w)) other spent_view)
  maker_join vs id v other w m apart at there = let b : View O E = joined v w in let z : View O E = spent_view in let mid : List (View O E) = set vs id b in let end : List (View O E) = set mid other z in
      let len = length-set vs id b in let len' = length-set mid other z in
      let who : (i : ℕ) (a : View O E) → get_elem? end i ≡ some a → 0 < a.made → ((i ≡ id) × ((0 < v.made) ⊎ (0 < w.made))) ⊎ ((i ≢ other) × (get_elem? vs i ≡ some a)) = λ i a.
      each_set (λ i a. 0 < a.made → ((i ≡ id) × ((0 < v.made) ⊎ (0 < w.made))) ⊎ ((i ≢ other) × (get_elem? vs i ≡ some a))) mid other z (λ h. absurd (omega arith)) (λ j u not e.
      each_set (λ j u. j ≢ other → 0 < u.made → ((j ≡ id) × ((0 < v.made) ⊎ (0 < w.made))) ⊎ ((j ≢ other) × (get_elem? vs j ≡ some u))) vs id b
      (λ _ h. inl (refl, dite (dec_lt 0 v.made) inl (λ none. inr (some_max v.made w.made h none)))) (λ k x _ kx not' h. inr (not', kx)) j u e not) i a in
      let makes : (i : ℕ) (a : View O E) → get_elem? end i ≡ some a → 0 < a.made → (j : ℕ) → (x : View O E) → get_elem? vs j ≡ some x → 0 < x.made → j ≢ other → i ≡ j = λ i a ia ma j x jx mx not.
      ⊎_elim (λ (t : (i ≡ id) × ((0 < v.made) ⊎ (0 < w.made))). ⊎_elim (λ (h : 0 < v.made). t.0 ∙ m.one id j v x at jx h mx) (λ (h : 0 < w.made). absurd (not (m.one j other x w jx there mx h))) t.1)
      (λ (t : (i ≢ other) × (get_elem? vs i ≡ some a)). m.one i j a x t.1 jx ma mx) (who i a ia ma) in record {
        made = each_set (λ _ u. 0 < u.made → u.made ≡ length end) mid other z (λ h. absurd (omega arith)) (λ j u _ e. each_set (λ _ u. 0 < u.made → u.made ≡ length end) vs id b
            (λ h. dite (dec_lt 0 v.made)
            (λ p. let a = m.made id v at p in let none : ¬ (0 < w.made) = λ k. apart (m.one id other v w at there p k) in omega arith)
            (λ n. let k : 0 < w.made = some_max v.made w.made h n in let a = m.made other w there k in omega arith))
            (λ k x _ kx h. let a = m.made k x kx h in omega arith) j u e);
        one = λ i j a x ia jx ma mx. ⊎_elim (λ (t : (i ≡ id) × ((0 < v.made) ⊎ (0 < w.made))). ⊎_elim (λ (u : (j ≡ id) × ((0 < v.made) ⊎ (0 < w.made))). t.0 ∙ sym u.0)
            (λ (u : (j ≢ other) × (get_elem? vs j ≡ some x)). makes i a ia ma j x u.1 mx u.0) (who j x jx mx))
            (λ (t : (i ≢ other) × (get_elem? vs i ≡ some a)). sym (makes j x jx mx i a t.1 ma t.0)) (who i a ia ma);
      }

  -- two seats that are joined have seen what either had
  seen_join : (vs : List (View O E)) (id : ℕ) (v : View O E) (other : ℕ) (w : View O E) (log : List E) → is_live v ≡ true → id ≢ other → get_elem? vs id ≡ some v → get_elem? vs other ≡ some w → IsPrefix v.seen log → IsPrefix w.seen log
      → SomeSeen vs log → SomeSeen (set (set vs id (joined v w)) other spent_view) log
  seen_join vs id v other w log live apart at there pv pw x = let b : View O E = joined v w in let z : View O E = spent_view in let mid : List (View O E) = set vs id b in
      let stayed : (v.seen ≡ log) ⊎ (w.seen ≡ log) → SomeSeen (set mid other z) log = λ whole. (id, b, set_else mid other id z apart ∙ set_here vs id b (at_inside vs id v at), live, longer_whole log v.seen w.seen pv pw whole) in
      dite (ℕ_discrete x.0 id)
      (λ (e : x.0 ≡ id). let same : x.1 ≡ v = some-injective x.1 v (sym x.2 ∙ (ap (get_elem? vs) e ∙ at)) in stayed (inl (sym (ap (λ (u : View O E). u.seen) same) ∙ x.4)))
      (λ (n : x.0 ≢ id). dite (ℕ_discrete x.0 other)
      (λ (e : x.0 ≡ other). let same : x.1 ≡ w = some-injective x.1 w (sym x.2 ∙ (ap (get_elem? vs) e ∙ there)) in stayed (inr (sym (ap (λ (u : View O E). u.seen) same) ∙ x.4)))
      (λ (n' : x.0 ≢ other). (x.0, x.1, set_else mid other x.0 z n' ∙ (set_else vs id x.0 b n ∙ x.2), x.3, x.4)))

module _ {O E S : Type 0} (list : S → List E) (opening_of : S → O) (number_of : E → ℕ) (o : O) (seats : ℕ) where
  abbrev W : Type 0
  W = View O E

  abbrev R : State (Option S) W → Type 0
  R = TurnRule list opening_of number_of o seats

  pub splits : (id : ℕ) (v : W) → is_live v ≡ true → v.turn ≡ false → 0 < v.made → v.made < seats → Splits R id v (hands_on v) (new_seat v)
  splits id v live off some_made room s r at = let w : W = hands_on v in let n : W = new_seat v in let mid : List W = set s.views id w in
      let mine = r.each id v at in let len = length-set s.views id w in let more = one_more mid n in let made = r.maker.made id v at some_made in record {
        next = r.next;
        serving = r.serving;
        log = r.log;
        words = r.words;
        few = omega arith;
        most = r.most;
        counted = let d = sum_set ticket_count s.views id v w at in let e = sum_by_push ticket_count mid n in let z : ticket_count n ≡ 0 = refl in let c = r.counted in omega arith;
        apart = apart_end mid n refl (apart_set s.views id w r.apart (λ j u t other e tu tw. other (r.apart j id u v t e at tu tw)));
        each = each_end (IsSeat number_of o r.next r.serving r.log) mid n (each_set (IsSeat number_of o r.next r.serving r.log) s.views id w record {
          spent = λ dead. absurd (true_false (is_live v) live dead);
          numbered = mine.numbered;
          opened = mine.opened;
          ticket = mine.ticket;
          turn = mine.turn;
          prefix = mine.prefix;
          known = mine.known;
          own = mine.own;
          alone = mine.alone;
          past = mine.past;
        } (λ j u _ e. r.each j u e)) record {
          spent = λ dead. absurd (true_false (is_live v) live dead);
          numbered = λ _. omega arith;
          opened = mine.opened;
          ticket = λ t e. absurd (none_some None t refl e);
          turn = λ on. absurd (true_false false on refl);
          prefix = mine.prefix;
          known = mine.known;
          own = λ _. let none_yet = r.unborn (length mid) (omega arith) in none_yet ∙ sym (entries_none number_of (length mid) r.log v.seen mine.prefix none_yet);
          alone = λ _. let none_yet = r.unborn (length mid) (omega arith) in (mine.prefix, none_yet ∙ sym (entries_none number_of (length mid) r.log v.seen mine.prefix none_yet));
          past = All-nil (λ (e : Ended E). IsPrefix e.seen r.log × (entries_by number_of e.number r.log ≡ entries_by number_of e.number e.seen));
        };
        longest = let x = seen_set s.views id v w r.log at live (λ e. e) r.longest in (x.0, x.1, at_longer mid (n ∷ []) x.0 x.1 x.2, x.3, x.4);
        numbers = numbered_end mid n (numbered_set s.views id v w r.numbers at refl) (live_numbers n live ∙ ap (λ (k : ℕ). k ∷ []) (made ∙ sym len));
        maker = maker_split s.views id v r.maker at some_made;
        unborn = λ q far. r.unborn q (omega arith);
        one_slot = r.one_slot;
        slot = ⊎_elim inl (λ (x : SomeTurn s.views). let y = turn_set s.views id v w at off x in inr (y.0, y.1, at_longer mid (n ∷ []) y.0 y.1 y.2, y.3)) r.slot;
      }

  pub joins : (id : ℕ) (v : W) (other : ℕ) (w : W) → is_live v ≡ true → is_live w ≡ true → v.ticket ≡ None → w.ticket ≡ None → v.turn ≡ false → w.turn ≡ false
      → Joins R id v other w (joined v w) spent_view
  joins id v other w live live' idle idle' off off' s r at apart there' =
      let b : W = joined v w in let z : W = spent_view in let mid : List W = set s.views id b in
      let there : get_elem? s.views other ≡ some w = sym (set_else s.views id other b apart) ∙ there' in
      let mine = r.each id v at in let theirs = r.each other w there in
      let len = length-set s.views id b in let len' = length-set mid other z in
      let other_way : id ≢ other = λ e. apart (sym e) in
      let Kept : Ended E → Type 0 = λ e. IsPrefix e.seen r.log × (entries_by number_of e.number r.log ≡ entries_by number_of e.number e.seen) in record {
        next = r.next;
        serving = r.serving;
        log = r.log;
        words = r.words;
        few = let f = r.few in omega arith;
        most = r.most;
        counted = let d = sum_set ticket_count s.views id v b at in let e = sum_set ticket_count mid other w z there' in let k = r.counted in
            let n : ticket_count w ≡ 0 = ap (λ (t : Option ℕ). cond (is_some t) 1 0) idle' in let m : ticket_count z ≡ 0 = refl in omega arith;
        apart = apart_set mid other z (apart_set s.views id b r.apart (λ j u t not e tu tb. none_some v.ticket t idle tb)) (λ j u t _ e tu tz. none_some None t refl tz);
        each = each_set (IsSeat number_of o r.next r.serving r.log) mid other z record {
          spent = λ _. refl;
          numbered = λ on. absurd (true_false false on refl);
          opened = λ on. absurd (true_false false on refl);
          ticket = λ t e. absurd (none_some None t refl e);
          turn = λ on. absurd (true_false false on refl);
          prefix = (r.log, refl);
          known = omega arith;
          own = λ on. absurd (true_false false on refl);
          alone = λ on. absurd (true_false false on refl);
          past = All-nil Kept;
        } (λ j u _ e. each_set (IsSeat number_of o r.next r.serving r.log) s.views id b record {
          spent = λ dead. absurd (true_false (is_live v) live dead);
          numbered = mine.numbered;
          opened = mine.opened;
          ticket = mine.ticket;
          turn = λ on. absurd (true_false v.turn on off);
          prefix = prefix_longer r.log v.seen w.seen mine.prefix theirs.prefix;
          known = let a = mine.known in let b = theirs.known in omega arith;
          own = λ on. entries_longer number_of id r.log v.seen w.seen mine.prefix theirs.prefix (mine.own on);
          alone = mine.alone;
          past = All-append Kept v.ended (end_of w ∷ w.ended) mine.past (All-cons Kept (end_of w) w.ended
              (theirs.prefix, subst (λ (n : ℕ). entries_by number_of n r.log ≡ entries_by number_of n w.seen) (sym (theirs.numbered live')) (theirs.own live')) theirs.past);
        } (λ k x _ kx. r.each k x kx) j u e);
        longest = seen_join s.views id v other w r.log live other_way at there mine.prefix theirs.prefix r.longest;
        numbers = numbered_join s.views id v other w r.numbers live live' at there';
        maker = maker_join s.views id v other w r.maker other_way at there;
        unborn = λ q far. r.unborn q (omega arith);
        one_slot = r.one_slot;
        slot = ⊎_elim inl (λ (x : SomeTurn s.views). inr (turn_set mid other w z there' off' (turn_set s.views id v b at off x))) r.slot;
      }
