-- Jobs: what is handed out at a start.
use Rattle.std.specs.Prelude.{◌≡◌, ℕ, if◌then◌else◌, Bool, List, [], ◌∷◌, ◌++◌, map, Some}
use Rattle.ex_model.specs.declared.bindings.Binding.{Binding}
use Rattle.ex_model.specs.Along.{After}
use Rattle.notebook.specs.declared.parts.Parts.{Parts}
use Rattle.notebook.specs.declared.parts.Passed.{Passed}
use Rattle.notebook.specs.Flow.{path}
use Rattle.session_ops.specs.declared.entry.Reply.{Reply}
use Rattle.session_ops.specs.declared.entry.Reply.TheVariants.{Stored, Late}
use Rattle.session_ops.specs.State.{source_bytes}
use Rattle.session_core.specs.declared.job.PlainJob.{PlainJob}

-- the path ends with this cell and source, and the bindings are those that the cells before it leave
pub record EndsOver (p : List Passed) (last : Passed) (base : List Binding) : Type 0 where
  pub before : List Passed
  pub parts : p ≡ before ++ last ∷ []
  pub after : After (map source_bytes before) base

-- the job is an evaluation along the path: its cell and source are the last, and its base is what the cells before leave
abbrev pub IsAlong : List Passed → PlainJob → Type 0
IsAlong p job = EndsOver p (record { cell = job.cell; source = job.source }) job.base

-- some bindings stand after the path: none of its cells faults
abbrev pub HasAfter : List Passed → Type 0
HasAfter p = (bs : List Binding) × After (map source_bytes p) bs

-- the cell's path ends with this source, and the bindings are those that the cells before it leave
pub record IsAlongTo (n : Parts) (cell : ℕ) (source : List ℕ) (base : List Binding) : Type 0 where
  pub present : List Passed
  pub path_is : path n cell ≡ Some present
  pub ends : EndsOver present (record { cell = cell; source = source }) base

-- an evaluation that runs no more is late
abbrev pub answer_by : ℕ → Bool → Reply
answer_by eval runs = if runs then Stored eval else Late eval
