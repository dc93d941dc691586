use Rattle.std.proofs.Common.{◌≡◌, ℕ, ◌+◌, ◌-◌, List, [], ◌∷◌, length, map, get_or, slice_set, false, true, ap, sym, ◌∙◌, arith, rules, length-append}
use Rattle.std.proofs.lemmas.List.{length-map, map-set, set_at}
use Rattle.std.proofs.Math.Seq.{get_or-append_seam}
use Rattle.std.proofs.Math.ListN.{get_or-map}
use Rattle.book_outside.specs.Outside.{Reading, with_reading}
use Rattle.book_outside.specs.Readings.{reading_of}
use Rattle.book_outside.specs.declared.readings.NamedRead.{NamedRead}
use Rattle.book_outside.proofs.readings.fail_last.Goals as goal

-- the last of some reads is told as failed
last-failed : (xs : List NamedRead) (n : ℕ) (x : NamedRead) (before : List Reading) (name : List ℕ) → n ≡ length xs → x ≡ get_or xs (n - 1) x → map reading_of xs ≡ with_reading before name false
    → map reading_of (slice_set xs (n - 1) (record x { failed = true })) ≡ with_reading before name true
last-failed xs n x before name en ex e =
    let len : length xs ≡ length before + 1 = sym (length-map xs reading_of) ∙ (ap (λ rs. length rs) e ∙ length-append before (record { name = name; failed = false } ∷ [])) in
    let at : length before ≡ n - 1 = omega (arith, en, len) in
    let same : reading_of x ≡ record { name = name; failed = false } =
    ap reading_of ex ∙ (sym (get_or-map reading_of xs (n - 1) x)
    ∙ (ap (λ rs. get_or rs (n - 1) (reading_of x)) e ∙ (ap (λ i. get_or (with_reading before name false) i (reading_of x)) (sym at) ∙ get_or-append_seam before (record { name = name; failed = false }) [] (reading_of x)))) in
    map-set reading_of xs (n - 1) (record x { failed = true })
    ∙ (ap (λ r. slice_set (map reading_of xs) (n - 1) (record r { failed = true })) same
    ∙ (ap (λ rs. slice_set rs (n - 1) (record { name = name; failed = true })) e ∙ set_at before (record { name = name; failed = false }) [] (record { name = name; failed = true }) (n - 1) at))

pub returns-in-Some : goal.returns-in-Some
returns-in-Some c = λ before name e. last-failed c.args.reads.now.items _ c.in-Some.last.now before name (search rules) c.in-Some.ensures.value e
