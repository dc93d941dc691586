-- What shelves and sinks mean.
use Rattle.std.specs.Prelude.{◌≡◌, ℕ, ◌+◌, ◌-◌, ◌^◌, ◌≤◌, ◌⊎◌, min, Bool, true, false, if◌then◌else◌, List, [], ◌∷◌, ◌++◌, take, find, Option, Some, IfSome, Result, Ok, Err, is_err, Vec}
use Rattle.std.specs.Option.{option_map}
use Rattle.std.specs.Str.{bytes_eq}
use Rattle.std.specs.declared.alloc.Global.{Global}
use Rattle.book_outside.specs.declared.outside.ShelfError.{ShelfError}
use Rattle.book_outside.specs.declared.outside.ShelfError.TheVariants.{Failed, OutOfMemory}

-- one more, up to 2^64 - 1
abbrev pub one_more : ℕ → ℕ
one_more n = min (n + 1) (2 ^ 64 - 1)

-- a count that stands still at 2^64 - 1 has risen, or stands there
abbrev pub Rose : ℕ → ℕ → Type 0
Rose before now = one_more before ≤ now

-- how often it has failed after a call with this answer: once more exactly where the answer is an error
abbrev pub faults_after : {A E : Type 0} → Result A E → ℕ → ℕ
faults_after result before = if is_err result then one_more before else before

-- a read of a shelf: the name, and whether the read failed
pub record Reading : Type 0 where
  pub name : List ℕ
  pub failed : Bool

-- one reading more
abbrev pub with_reading : List Reading → List ℕ → Bool → List Reading
with_reading readings name failed = readings ++ record { name = name; failed = failed } ∷ []

-- what a read of a name adds to the reads, by its answer: one that failed exactly where the answer is `Failed`; after want of memory one that didn't fail, or none
abbrev pub IsListed : {A : Type 0} → List Reading → List ℕ → List Reading → Result A ShelfError → Type 0
IsListed before name now (Ok given) = now ≡ with_reading before name false
IsListed before name now (Err Failed) = now ≡ with_reading before name true
IsListed before name now (Err OutOfMemory) = (now ≡ before) ⊎ (now ≡ with_reading before name false)

-- the bytes under a name: those of the first entry that has it
abbrev pub held_under : List ℕ → List (List ℕ × List ℕ) → Option (List ℕ)
held_under name books = option_map (λ b. b.1) (find (λ b. bytes_eq b.0 name) books)

-- the bytes given are the first `most` of those held under the name, or all where there are fewer
pub record IsFrontOf (books : List (List ℕ × List ℕ)) (name : List ℕ) (most : ℕ) (given : List ℕ) : Type 0 where
  pub bytes : List ℕ
  pub held : held_under name books ≡ Some bytes
  pub front : given ≡ take most bytes

-- the same, where what is held is told
abbrev pub GivesFront : Option (List (List ℕ × List ℕ)) → List ℕ → ℕ → List ℕ → Type 0
GivesFront held name most given = IfSome held (λ books. IsFrontOf books name most given)

-- the bytes that a read gives are such a front
abbrev pub IsReadOf : Option (List (List ℕ × List ℕ)) → List ℕ → ℕ → Vec ℕ Global → Type 0
IsReadOf held name most bytes = GivesFront held name most bytes.items

-- where what was written is told: the bytes were put after it
abbrev pub AppendsAll : Option (List ℕ) → List ℕ → Option (List ℕ) → Type 0
AppendsAll before bytes now = IfSome before (λ written. now ≡ Some (written ++ bytes))

-- a front of the bytes was put after what was written before
pub record IsExtendedBy (bytes before : List ℕ) (now : Option (List ℕ)) : Type 0 where
  pub part : List ℕ
  pub rest : List ℕ
  pub parts : bytes ≡ part ++ rest
  pub appended : now ≡ Some (before ++ part)

-- the same, where what was written is told
abbrev pub AppendsFront : Option (List ℕ) → List ℕ → Option (List ℕ) → Type 0
AppendsFront before bytes now = IfSome before (λ written. IsExtendedBy bytes written now)
