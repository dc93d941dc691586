-- What an answer's kind tells.
use Rattle.std.proofs.Common.{◌≡◌, true, false}
use Rattle.std.specs.Prelude.{Result, Ok, Err, OnOk, OnErr}
use Rattle.std.specs.Result.{is_err}

pub at-err : {X E P : Type 0} (r : Result X E) → is_err r ≡ true → OnErr r P → P
at-err (Ok x) h p = absurd (cc h)
at-err (Err e) h p = p

pub at-ok : {X E P : Type 0} (r : Result X E) → is_err r ≡ false → OnOk r P → P
at-ok (Ok x) h p = p
at-ok (Err e) h p = absurd (cc h)
