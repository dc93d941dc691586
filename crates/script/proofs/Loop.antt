-- How far a script was read.
use Rattle.std.proofs.Common.{◌≡◌, ◌∙◌, ℕ, ◌+◌, ◌<◌, ◌≤◌, List, [], ◌∷◌, ◌++◌, length, refl, sym, ap, subst, arith, length-append, append-nil, append_assoc}
use Rattle.script.specs.declared.content.Content.{Content}
use Rattle.script.specs.declared.error.LineError.TheVariants.{Fault}
use Rattle.script.specs.declared.error.LineFault.{LineFault}
use Rattle.script.specs.Lines.{lines}
use Rattle.script.specs.Script.{IsScript, IsScriptOf, IsFirstBad}
use Rattle.script.specs.Clients.{IsNumbered}
use Rattle.script.specs.Next.{no_content, ReadsOn, IsStop}

-- the lines before the rest stand for the script, and this is their number
pub record IsReading (bytes rest : List ℕ) (number : ℕ) (content : Content) : Type 0 where
  pub before : List (List ℕ)
  pub parts : lines bytes ≡ before ++ lines rest
  pub counted : number ≡ length before
  pub few : number + length rest ≤ length bytes
  pub script : IsScript before content

no-clients : IsNumbered no_content
no-clients = record { forms = λ client name at. absurd (cc); differ = λ client other name at at'. absurd (cc); few = omega arith; order = refl }

pub reading-start : (bytes : List ℕ) → IsReading bytes bytes 0 no_content
reading-start bytes =
    record { before = []; parts = refl; counted = refl; few = omega arith; script = record { utf8 = tt; each = tt; clients = no-clients } }

pub reading-turn : (bytes rest : List ℕ) (number : ℕ) (old new : Content) (line after : List ℕ) → IsReading bytes rest number old → lines rest ≡ line ∷ lines after → length after < length rest → ReadsOn line old new → IsReading bytes after (number + 1) new
reading-turn bytes rest number old new line after r cut shorter reads =
    let front : lines bytes ≡ r.before ++ line ∷ lines after = r.parts ∙ ap (λ ls. r.before ++ ls) cut in
    record {
      before = r.before ++ line ∷ [];
      parts = front ∙ sym (append_assoc r.before (line ∷ []) (lines after));
      counted = rw (length-append r.before (line ∷ []), r.counted) refl;
      few = (let few = r.few in omega arith);
      script = reads r.before r.script;
    }

pub reading-end : (bytes rest : List ℕ) (number : ℕ) (content : Content) → IsReading bytes rest number content → rest ≡ [] → length bytes ≤ 8_388_608 → IsScriptOf bytes content
reading-end bytes rest number content r done small =
    let all : lines bytes ≡ r.before = r.parts ∙ ap (λ b. r.before ++ lines b) done ∙ append-nil r.before in
    record { small = small; script = subst (λ ls. IsScript ls content) (sym all) r.script }

pub reading-stop : (bytes rest : List ℕ) (number : ℕ) (old : Content) (line after : List ℕ) (kind : LineFault) → IsReading bytes rest number old → lines rest ≡ line ∷ lines after → IsStop line old (Fault kind) → IsFirstBad (lines bytes) (number + 1) kind
reading-stop bytes rest number old line after kind r cut stop =
    record {
      before = r.before;
      line = line;
      after = lines after;
      parts = r.parts ∙ ap (λ ls. r.before ++ ls) cut;
      counted = ap (λ n. n + 1) r.counted;
      good = (old, r.script);
      bad = λ new. stop.1 r.before new r.script;
      fault = stop.0;
    }
