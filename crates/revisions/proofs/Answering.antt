-- What a log answers is what its source answers.
use Rattle.std.proofs.Common.{◌≡◌, ℕ, ◌+◌, ◌-◌, ◌<◌, ◌≤◌, true, false, List, take, drop, refl, sym, ap, subst, ◌∙◌, arith}
use Rattle.std.specs.Prelude.{nat_lt}
use Rattle.std.proofs.lemmas.List.{drop-drop}
use Rattle.std.proofs.lemmas.Bool.Decides.{nat_tests}
use Rattle.delta.specs.declared.Step.{Step}
use Rattle.delta.specs.Moves.{FitsText, over}
use Rattle.delta_laws.proofs.Laws.{delta_laws}
use Rattle.revisions.specs.declared.errors.RevError.{RevError}
use Rattle.revisions.specs.declared.errors.RevError.TheVariants as error
use Rattle.revisions.specs.declared.kept.Kept.{Kept}
use Rattle.revisions.specs.declared.moved.Move.{Move}
use Rattle.revisions.specs.declared.source_log.Accepted.{Accepted}
use Rattle.revisions.specs.declared.source_log.SourceLog.{SourceLog}
use Rattle.revisions.specs.Answer.{Takes, TooNew, TooOld, IsCause, answer, fitted, judged}
use Rattle.revisions.specs.Kept.{deltas_of, made_by, LeadsTo, HaveLens}
use Rattle.revisions.specs.Log.{Holds, IsLog, HasTaken, IsTaken}
use Rattle.revisions.specs.Moved.{IsMoved, BecomesMove, IsMoveCause}
use Rattle.revisions.specs.Source.{Source, rev_of, least_of, taking}
use Rattle.revisions.proofs.Chains.{deltas-drop, made-take, leads-from, lens-from}

-- the kept deltas from a base on
record Since (s : Source) (base : ℕ) (kept : List Kept) : Type 0 where
  pub deltas : deltas_of kept ≡ drop base s.taken
  pub lens : HaveLens (made_by (take base s.taken) s.first) kept
  pub leads : LeadsTo (made_by (take base s.taken) s.first) (deltas_of kept) s.text

since : (s : Source) (log : SourceLog) (base : ℕ) → Holds s log → log.least ≤ base → Since s base (drop (base - log.least) log.kept)
since s log base h low =
    let n : ℕ = base - log.least in
    let sum : base ≡ log.least + n = omega (arith, low) in
    let start : List ℕ = made_by (take log.least s.taken) s.first in
    let cut : deltas_of (drop n log.kept) ≡ drop base s.taken =
    deltas-drop n log.kept ∙ (ap (drop n) h.kept ∙ (drop-drop n log.least s.taken ∙ ap (λ a. drop a s.taken) (sym sum))) in
    let made : made_by (take n (deltas_of log.kept)) start ≡ made_by (take base s.taken) s.first =
    ap (λ xs. made_by (take n xs) start) h.kept ∙ made-take log.least n base s.taken s.first sum in
    record {
      deltas = cut;
      lens = subst (λ a. HaveLens a (drop n log.kept)) made (lens-from n log.kept start h.lens);
      leads = subst (λ xs. LeadsTo (made_by (take base s.taken) s.first) xs s.text) (sym cut) (leads-from base s.taken s.first s.text h.leads);
    }

-- the answer to a base that may be built on
pub fitted-answer : (s : Source) (base : ℕ) (d : List Step) → base ≤ rev_of s → least_of s ≤ base → answer s base d ≡ fitted s (over d (drop base s.taken))
fitted-answer s base d low up =
    let new : nat_lt (rev_of s) base ≡ false = grind (arith, nat_tests) in
    let old : nat_lt base (least_of s) ≡ false = grind (arith, nat_tests) in
    rw (new, old) refl

pub low-base : (s : Source) (log : SourceLog) (base : ℕ) → IsLog s log → base ≤ log.rev → base ≤ rev_of s
low-base s log base h low = omega (arith, low, h.holds.rev)

pub refused-new : (s : Source) (base : ℕ) (d : List Step) (log : SourceLog) → IsLog s log → log.rev < base → IsCause s base d (error.TooNew log.rev)
refused-new s base d log h up =
    let rev : log.rev ≡ rev_of s = h.holds.rev in
    let new : nat_lt (rev_of s) base ≡ true = grind (arith, nat_tests, rev) in
    let told : answer s base d ≡ TooNew (rev_of s) = rw new refl in
    told ∙ ap TooNew (sym rev)

pub refused-old : (s : Source) (base : ℕ) (d : List Step) (log : SourceLog) → IsLog s log → base ≤ log.rev → base < log.least → IsCause s base d (error.TooOld log.least)
refused-old s base d log h low up =
    let low' : base ≤ rev_of s = low-base s log base h low in
    let kept : log.least ≡ least_of s = h.lowest in
    let new : nat_lt (rev_of s) base ≡ false = grind (arith, nat_tests) in
    let old : nat_lt base (least_of s) ≡ true = grind (arith, nat_tests, kept) in
    let told : answer s base d ≡ TooOld (least_of s) = rw (new, old) refl in
    told ∙ ap TooOld (sym kept)

moved-cause : (s : Source) (base : ℕ) (d : List Step) (e : RevError) → base ≤ rev_of s → least_of s ≤ base → IsMoveCause d (over d (drop base s.taken)) (made_by (take base s.taken) s.first) s.text e → IsCause s base d e
moved-cause s base d (error.TooNew now) low up h = absurd h
moved-cause s base d (error.TooOld kept) low up h = absurd h
moved-cause s base d (error.PastEnd len) low up h = fitted-answer s base d low up ∙ ap (judged (rev_of s) (over d (drop base s.taken))) h
moved-cause s base d (error.SplitsPair at) low up h = fitted-answer s base d low up ∙ ap (judged (rev_of s) (over d (drop base s.taken))) h
moved-cause s base d error.OutOfMemory low up h = record { not_new = low; not_old = up; reach = h }

-- a delta that was moved and doesn't fit, or for which memory was refused
pub refused-moved : (s : Source) (base : ℕ) (d : List Step) (log : SourceLog) (e : RevError) → IsLog s log → base ≤ log.rev → log.least ≤ base
    → ((t : List ℕ) → HaveLens t (drop (base - log.least) log.kept) → LeadsTo t (deltas_of (drop (base - log.least) log.kept)) log.text → IsMoveCause d (over d (deltas_of (drop (base - log.least) log.kept))) t log.text e)
    → IsCause s base d e
refused-moved s base d log e h low up f =
    let xs : List (List Step) = s.taken in
    let t : List ℕ = made_by (take base xs) s.first in
    let q = since s log base h.holds up in
    let now : log.text ≡ s.text = h.holds.now in
    let cause = f t q.lens (subst (λ a. LeadsTo t (deltas_of (drop (base - log.least) log.kept)) a) (sym now) q.leads) in
    let cause' : IsMoveCause d (over d (drop base xs)) t s.text e = subst (λ a. IsMoveCause d (over d (drop base xs)) t a e) now (subst (λ ys. IsMoveCause d (over d ys) t log.text e) q.deltas cause) in
    moved-cause s base d e (low-base s log base h low) (omega (arith, up, h.lowest)) cause'

-- what was moved is what the source would take
moved-becomes : (s : Source) (base : ℕ) (d : List Step) (m : Move) → base ≤ rev_of s → least_of s ≤ base → BecomesMove d (over d (drop base s.taken)) (made_by (take base s.taken) s.first) s.text m → IsMoved s base d m
moved-becomes s base d m low up b =
    let x : List Step = over d (drop base s.taken) in
    let none = delta_laws.no_misfit x s.text (subst (λ y. FitsText y s.text) b.moved b.moves.fits) in
    record {
      answered = fitted-answer s base d low up ∙ (ap (judged (rev_of s) x) none ∙ ap (Takes (rev_of s + 1)) (sym b.moved));
      moves = b.moves;
      within = record { not_new = low; not_old = up; reach = b.reach };
    }

pub moved-so : (s : Source) (base : ℕ) (d : List Step) (log : SourceLog) (m : Move) → IsLog s log → base ≤ log.rev → log.least ≤ base
    → ((t : List ℕ) → HaveLens t (drop (base - log.least) log.kept) → LeadsTo t (deltas_of (drop (base - log.least) log.kept)) log.text → BecomesMove d (over d (deltas_of (drop (base - log.least) log.kept))) t log.text m)
    → IsMoved s base d m
moved-so s base d log m h low up f =
    let xs : List (List Step) = s.taken in
    let t : List ℕ = made_by (take base xs) s.first in
    let q = since s log base h.holds up in
    let now : log.text ≡ s.text = h.holds.now in
    let both = f t q.lens (subst (λ a. LeadsTo t (deltas_of (drop (base - log.least) log.kept)) a) (sym now) q.leads) in
    let becomes : BecomesMove d (over d (drop base xs)) t s.text m = subst (λ a. BecomesMove d (over d (drop base xs)) t a m) now (subst (λ ys. BecomesMove d (over d ys) t log.text m) q.deltas both) in
    moved-becomes s base d m (low-base s log base h low) (omega (arith, up, h.lowest)) becomes

-- a delta that was moved and taken
pub taken-so : (s : Source) (client base : ℕ) (d : List Step) (m : Move) (a : Accepted) (log : SourceLog) → IsMoved s base d m → HasTaken s client m.delta a log → IsTaken s client base d a log
taken-so s client base d m a log q t =
    record {
      answered = q.answered ∙ (ap (λ k. Takes k m.delta) (sym t.rev) ∙ ap (Takes a.rev) (sym t.delta));
      after = subst (λ x. IsLog (taking client x s) log) (sym t.delta) t.after;
    }
