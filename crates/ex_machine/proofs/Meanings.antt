-- A source has one meaning, and a path leaves and shows one thing.
use Rattle.std.proofs.Common.{◌≡◌, ℕ, List, refl}
use Rattle.ex_model.specs.declared.bindings.Binding.{Binding}
use Rattle.ex_model.specs.declared.ran.Ran.{Ran}
use Rattle.ex_model.specs.declared.ran.Shown.{Shown}
use Rattle.ex_model.specs.Means.{Means}
use Rattle.ex_model.specs.Along.{After, IsShown}
use Rattle.ex_model.proofs.Once as once
use Rattle.ex_source.proofs.Readings.{one_reading}

-- a source has one meaning
pub one_meaning : {source : List ℕ} {base : List Binding} {limit : ℕ} {r s : Ran} → Means source base limit r → Means source base limit s → r ≡ s
one_meaning h k = once.one_meaning one_reading h k

-- a path leaves one list of bindings
pub one_after : {path : List (List ℕ)} {b c : List Binding} → After path b → After path c → b ≡ c
one_after h k = once.one_after one_reading h k refl

-- a path shows one thing
pub one_shown : {path : List (List ℕ)} {r s : Shown} → IsShown path r → IsShown path s → r ≡ s
one_shown h k = once.one_shown one_reading h k refl
