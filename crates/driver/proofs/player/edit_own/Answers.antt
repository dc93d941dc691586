use Rattle.std.proofs.Common.{inl}
use Rattle.driver.proofs.player.edit_own.Goals as goal

pub returns-in_ok-push_edited-in-Ok : goal.returns-in_ok-push_edited-in-Ok
returns-in_ok-push_edited-in-Ok c = λ n0 m mir.
    let done = c.in-Ok.ensures.edited n0 m mir in
    inl (record { held_then = done.0; done = done.1.0; mirrors = done.1.1; printed = c.in_ok-push_edited-in-Ok.ensures })
