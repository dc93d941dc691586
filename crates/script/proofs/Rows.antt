-- Each line of the format once, as the definitions read it.
use Rattle.std.proofs.Common.{◌≡◌, true, false, [], ◌∷◌, ◌++◌, codes, refl, arith, Some, None, lit<, lit≤}
use Rattle.std.specs.Str.{chars}
use Rattle.serde_json.proofs.OnLiterals.{serde_json_on_literals}
use Rattle.notebook.specs.declared.change.CellKind.TheVariants.{Code, Markdown}
use Rattle.session_ops.specs.declared.entry.Op.{Op}
use Rattle.session_ops.specs.declared.entry.Op.TheVariants.{SetName, InsertSection, SetSectionName, DeleteSection, MoveSection, SetParent, InsertCell, DeleteCell, RestoreCell, MoveCell, Delta, Report, Queue, Cancel}
use Rattle.script.specs.declared.line.ScriptLine.TheVariants.{Leave, Post, PostReport, RawJoin, Raw}
use Rattle.script.specs.Number.{IsNumber}
use Rattle.script.specs.Text.{IsText}
use Rattle.script.specs.Delta.{IsDelta}
use Rattle.script.specs.Ops.{IsRawOp, IsOp}
use Rattle.script.specs.Line.{IsLine}
use Rattle.script.proofs.Operations.{known, postable-word}

seven : IsNumber (codes "7") 7
seven = record { digits = (lit< tt, (lit< tt, tt)); few = lit≤ tt; value = refl; small = lit< tt }

eight : IsNumber (codes "8") 8
eight = record { digits = (lit< tt, (lit< tt, tt)); few = lit≤ tt; value = refl; small = lit< tt }

nine : IsNumber (codes "9") 9
nine = record { digits = (lit< tt, (lit< tt, tt)); few = lit≤ tt; value = refl; small = lit< tt }

text_q : IsText (34 ∷ 81 ∷ 34 ∷ []) (81 ∷ [])
unfolding serde_json_on_literals chars
text_q = record { inside = 81 ∷ []; json = refl; characters = refl }

no_steps : IsDelta (codes "[]") []
unfolding serde_json_on_literals
no_steps = record { steps = refl; canonical = record { good = refl; reach = lit≤ tt; inserted = lit≤ tt } }

row-set_name : IsOp (codes "set_name " ++ 34 ∷ 81 ∷ 34 ∷ []) (SetName (81 ∷ []))
row-set_name = (refl, (refl, text_q))

row-insert_section : IsOp (codes "insert_section 7 " ++ 34 ∷ 81 ∷ 34 ∷ []) (InsertSection 7 (81 ∷ []))
row-insert_section = (refl, (refl, (seven, text_q)))

row-set_section_name : IsOp (codes "set_section_name 7 " ++ 34 ∷ 81 ∷ 34 ∷ []) (SetSectionName 7 (81 ∷ []))
row-set_section_name = (refl, (refl, (seven, text_q)))

row-delete_section : IsOp (codes "delete_section 7") (DeleteSection 7)
row-delete_section = (refl, (refl, seven))

row-move_section : IsOp (codes "move_section 7 8") (MoveSection 7 8)
row-move_section = (refl, (refl, (seven, eight)))

row-set_parent : IsOp (codes "set_parent 7 8") (SetParent 7 (Some 8))
row-set_parent = (refl, (refl, (seven, eight)))

row-set_parent-none : IsOp (codes "set_parent 7 none") (SetParent 7 None)
row-set_parent-none = (refl, (refl, (seven, refl)))

row-insert_cell : IsOp (codes "insert_cell 7 8 code") (InsertCell 7 8 Code)
row-insert_cell = (refl, (refl, (seven, (eight, refl))))

row-insert_cell-markdown : IsOp (codes "insert_cell 7 8 markdown") (InsertCell 7 8 Markdown)
row-insert_cell-markdown = (refl, (refl, (seven, (eight, refl))))

row-delete_cell : IsOp (codes "delete_cell 7") (DeleteCell 7)
row-delete_cell = (refl, (refl, seven))

-- the cell, then the section, then the place
row-restore_cell : IsOp (codes "restore_cell 7 8 9") (RestoreCell 7 8 9)
row-restore_cell = (refl, (refl, (seven, (eight, nine))))

row-move_cell : IsOp (codes "move_cell 7 8 9") (MoveCell 7 8 9)
row-move_cell = (refl, (refl, (seven, (eight, nine))))

row-queue : IsOp (codes "queue 7") (Queue 7)
row-queue = (refl, (refl, seven))

row-cancel : IsOp (codes "cancel 7") (Cancel 7)
row-cancel = (refl, (refl, seven))

row-delta : IsRawOp (codes "delta 7 8 []") (Delta 7 8 [])
row-delta = (refl, (seven, (eight, no_steps)))

row-report : IsRawOp (codes "report 7 8") (Report 7 8)
row-report = (refl, (seven, eight))

-- a report is posted as one, and no operation: neither a cell alone nor a cell and a revision
unposted-report : (op : Op) → ¬ (IsOp (codes "report 7") op)
unposted-report op is = let e : true ≡ false = postable-word (codes "report") (codes "7") op is.0 is.1 in absurd (cc)

unposted-revision : (op : Op) → ¬ (IsOp (codes "report 7 8") op)
unposted-revision op is = let e : true ≡ false = postable-word (codes "report") (codes "7 8") op is.0 is.1 in absurd (cc)

-- a raw report has a revision
short-report : (op : Op) → ¬ (IsRawOp (codes "report 7") op)
short-report op is = absurd (let digits = (known (codes "report") (codes "7") op is).1.1.digits in omega (arith, digits.0))

-- whole lines
line-leave : IsLine (codes "ann" ∷ codes "bob" ∷ []) (codes "leave bob") (Leave 1)
line-leave = (refl, (refl, refl))

line-rawjoin : IsLine (codes "ann" ∷ []) (codes "rawjoin ann") (RawJoin 0)
line-rawjoin = (refl, (refl, refl))

line-post : IsLine (codes "ann" ∷ []) (codes "post ann cancel 7") (Post 0 (Cancel 7))
line-post = (refl, (refl, row-cancel))

line-post-report : IsLine (codes "ann" ∷ []) (codes "post ann report 7") (PostReport 0 7)
line-post-report = (refl, (refl, (refl, seven)))

line-raw : IsLine (codes "ann" ∷ []) (codes "raw ann report 7 8") (Raw 0 (Report 7 8))
line-raw = (refl, (refl, row-report))
