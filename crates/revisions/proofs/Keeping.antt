-- What each call of a log makes of what it holds.
use Rattle.std.proofs.Common.{◌≡◌, ℕ, ◌+◌, ◌-◌, ◌≤◌, List, [], ◌∷◌, ◌++◌, length, take, drop, refl, sym, ap, subst, ◌∙◌, arith, length-append}
use Rattle.std.proofs.lemmas.List.{drop-append-le, take-append-le, drop-drop}
use Rattle.utf16_text.specs.Units.{unit_count}
use Rattle.delta.specs.declared.Step.{Step}
use Rattle.delta.specs.Moves.{FitsText, text_after}
use Rattle.revisions.specs.declared.kept.Kept.{Kept}
use Rattle.revisions.specs.declared.floors.Floor.{Floor}
use Rattle.revisions.specs.declared.source_log.SourceLog.{SourceLog}
use Rattle.revisions.specs.Floors.{at_zero, lowest, raised}
use Rattle.revisions.specs.Kept.{deltas_of, made_by, LeadsTo, HaveLens}
use Rattle.revisions.specs.Log.{Holds, IsLog}
use Rattle.revisions.specs.Source.{Source, begun, rev_of, least_of, taking}
use Rattle.revisions.proofs.Lowest.{lowest-le, lowest-rises}
use Rattle.revisions.proofs.Chains.{deltas-drop, deltas-more, made-take, leads-from, leads-more, lens-from, lens-more}

-- dropping up to the least floor
pub let-go : (s : Source) (old new : SourceLog) → Holds s old → old.least ≤ least_of s
    → new.text ≡ old.text → new.rev ≡ old.rev → new.floors ≡ old.floors → new.least ≡ lowest old.rev old.floors → new.kept ≡ drop (new.least - old.least) old.kept → IsLog s new
let-go s old new h up t r f l k =
    let low : new.least ≡ least_of s = l ∙ (ap (λ a. lowest a old.floors) h.rev ∙ ap (lowest (rev_of s)) h.known) in
    let n : ℕ = new.least - old.least in
    let sum : new.least ≡ old.least + n = omega (arith, low, up) in
    let cut : deltas_of new.kept ≡ drop new.least s.taken =
    ap deltas_of k ∙ (deltas-drop n old.kept ∙ (ap (drop n) h.kept ∙ (drop-drop n old.least s.taken ∙ ap (λ a. drop a s.taken) (sym sum)))) in
    let from : HaveLens (made_by (take n (deltas_of old.kept)) (made_by (take old.least s.taken) s.first)) (drop n old.kept) = lens-from n old.kept (made_by (take old.least s.taken) s.first) h.lens in
    let made : made_by (take n (deltas_of old.kept)) (made_by (take old.least s.taken) s.first) ≡ made_by (take new.least s.taken) s.first =
    ap (λ xs. made_by (take n xs) (made_by (take old.least s.taken) s.first)) h.kept ∙ made-take old.least n new.least s.taken s.first sum in
    record {
      holds =
          record {
            now = t ∙ h.now;
            known = f ∙ h.known;
            rev = r ∙ h.rev;
            kept = cut;
            lens = subst (λ ks. HaveLens (made_by (take new.least s.taken) s.first) ks) (sym k) (subst (λ a. HaveLens a (drop n old.kept)) made from);
            leads = h.leads;
          };
      lowest = low;
    }

-- one delta more, before the least floor is taken anew
pub more-holds : (s : Source) (old new : SourceLog) (client : ℕ) (x : List Step) (k : Kept) → IsLog s old → FitsText x s.text → k.len ≡ unit_count old.text → k.delta ≡ x
    → new.text ≡ text_after x s.text → new.rev ≡ old.rev + 1 → new.least ≡ old.least → new.kept ≡ old.kept ++ k ∷ [] → new.floors ≡ raised client (old.rev + 1) old.floors
    → Holds (taking client x s) new
more-holds s old new client x k h fits len d t r l ks fs =
    let g = h.holds in
    let xs : List (List Step) = s.taken in
    let more : length (xs ++ x ∷ []) ≡ length xs + 1 = length-append xs (x ∷ []) in
    let low : old.least ≤ length xs = omega (arith, h.lowest, lowest-le (length xs) s.floors) in
    let cut : deltas_of new.kept ≡ drop old.least xs ++ x ∷ [] = ap deltas_of ks ∙ (deltas-more old.kept k ∙ (ap (λ ys. ys ++ k.delta ∷ []) g.kept ∙ ap (λ y. drop old.least xs ++ y ∷ []) d)) in
    let all : drop new.least (xs ++ x ∷ []) ≡ drop old.least xs ++ x ∷ [] = ap (λ a. drop a (xs ++ x ∷ [])) l ∙ drop-append-le old.least xs (x ∷ []) low in
    let front : take new.least (xs ++ x ∷ []) ≡ take old.least xs = ap (λ a. take a (xs ++ x ∷ [])) l ∙ take-append-le old.least xs (x ∷ []) low in
    let base : List ℕ = made_by (take old.least xs) s.first in
    let leads : LeadsTo base (deltas_of old.kept) s.text = subst (λ ys. LeadsTo base ys s.text) (sym g.kept) (leads-from old.least xs s.first s.text g.leads) in
    let lens : HaveLens base (old.kept ++ k ∷ []) = lens-more old.kept k base s.text g.lens leads (len ∙ ap unit_count g.now) in
    record {
      now = t;
      known = fs ∙ (ap (λ a. raised client (a + 1) old.floors) g.rev ∙ ap (raised client (length xs + 1)) g.known);
      rev = r ∙ (ap (λ a. a + 1) g.rev ∙ sym more);
      kept = cut ∙ sym all;
      lens = subst (λ ys. HaveLens (made_by ys s.first) new.kept) (sym front) (subst (λ ys. HaveLens base ys) (sym ks) lens);
      leads = leads-more xs x s.first s.text g.leads fits;
    }

pub more-low : (s : Source) (old : SourceLog) (client : ℕ) (x : List Step) → IsLog s old → old.least ≤ least_of (taking client x s)
more-low s old client x h =
    omega (arith, h.lowest, lowest-rises client (rev_of s + 1) (rev_of s) (length (s.taken ++ x ∷ [])) s.floors (omega (arith, length-append s.taken (x ∷ []))))

-- the same with other floors
pub refloored : (s : Source) (old : SourceLog) (fs fs' : List Floor) → Holds s old → fs ≡ fs' → Holds (record s { floors = fs' }) (record old { floors = fs })
refloored s old fs fs' h f = record { now = h.now; known = f; rev = h.rev; kept = h.kept; lens = h.lens; leads = h.leads }

pub same-floors : (s : Source) (fs : List Floor) (log : SourceLog) → IsLog s log → s.floors ≡ fs → IsLog (record s { floors = fs }) log
same-floors s fs log h e = record { holds = refloored s log log.floors fs h.holds (h.holds.known ∙ e); lowest = h.lowest ∙ ap (lowest (rev_of s)) e }

-- a log that takes nothing
pub made-new : (source clients : List ℕ) (log : SourceLog) → log.text ≡ source → log.rev ≡ 0 → log.least ≡ 0 → log.kept ≡ [] → log.floors ≡ at_zero clients → IsLog (begun source clients) log
made-new source clients log t r l k f =
    record {
      holds =
          record {
            now = t;
            known = f;
            rev = r;
            kept = ap deltas_of k ∙ ap (λ a. drop a []) (sym l);
            lens = subst (λ ks. HaveLens (made_by (take log.least []) source) ks) (sym k) tt;
            leads = refl;
          };
      lowest = omega (arith, l, lowest-le 0 (at_zero clients));
    }
