use Rattle.std.proofs.Common.{◌≡◌, string_bytes, arith}
use Rattle.std.proofs.lemmas.Grind.{common_steps}
use Rattle.json.specs.Print.{quoted}
use Rattle.serde_json.proofs.FreeTexts.{text_of_str}
use Rattle.transcript.proofs.words.push_text.Goals as goal

pub returns-in-Ok : goal.returns-in-Ok
returns-in-Ok c =
    let events = c.in-Ok.ensures.events in
    let written : string_bytes c.in-Ok.written ≡ quoted c.args.text.now = text_of_str c.args.text.now events.0 (string_bytes c.in-Ok.written) events.1 events.2 in
    grind (arith, common_steps)
