-- The first lines of a script are a script.
use Rattle.std.proofs.Common.{◌≡◌, ◌≢◌, ◌∙◌, ℕ, zero, suc, ◌<◌, ◌≤◌, not, List, [], ◌∷◌, ◌++◌, length, take, map, filter, refl, sym, ap, subst, arith, append_assoc, Option, Some, None}
use Rattle.std.specs.Prelude.{slice_get}
use Rattle.std.specs.List.{AllByRecursion}
use Rattle.std.specs.Str.{IsUtf8}
use Rattle.std.proofs.lemmas.Bool.Decides.{nat_tests}
use Rattle.std.proofs.lemmas.List.{map-append, length-take-le}
use Rattle.std.proofs.lemmas.List.Elements.{filter-append}
use Rattle.script.specs.declared.line.ScriptLine.{ScriptLine}
use Rattle.script.specs.declared.content.Content.{Content}
use Rattle.script.specs.declared.error.LineFault.{LineFault}
use Rattle.script.specs.declared.error.ScriptError.{ScriptError}
use Rattle.script.specs.declared.error.ScriptError.TheVariants.{TooLarge, At, OutOfMemory}
use Rattle.script.specs.Words.{first_word, after_word}
use Rattle.script.specs.Lines.{lines, texts, said, is_skipped}
use Rattle.script.specs.Line.{client_of, IsRest}
use Rattle.script.specs.Clients.{IsSeenOrNext, seen_with, AppearInOrder}
use Rattle.script.specs.Script.{AreLines, IsScript, IsScriptOf, IsFirstBad, IsScriptCause}

-- the first names
pub taken-at : (names : List (List ℕ)) (count place : ℕ) (name : List ℕ) → place < count → slice_get names place ≡ Some name → slice_get (take count names) place ≡ Some name
taken-at [] count place name less at = absurd (cc)
taken-at (x ∷ names) zero place name less at = absurd (omega (arith, less))
taken-at (x ∷ names) (suc count) zero name less at = at
taken-at (x ∷ names) (suc count) (suc place) name less at = taken-at names count place name (omega (arith, less)) at

pub taken-from : (names : List (List ℕ)) (count place : ℕ) (name : List ℕ) → slice_get (take count names) place ≡ Some name → slice_get names place ≡ Some name
taken-from [] zero place name at = absurd (cc)
taken-from [] (suc count) place name at = absurd (cc)
taken-from (x ∷ names) zero place name at = absurd (cc)
taken-from (x ∷ names) (suc count) zero name at = at
taken-from (x ∷ names) (suc count) (suc place) name at = taken-from names count place name at

-- more and more are seen
seen-more : (seen : ℕ) (client : Option ℕ) → seen ≤ seen_with seen client
seen-more seen None = omega arith
seen-more seen (Some client) = grind (arith, nat_tests)

appear-more : (seen : ℕ) (ls : List ScriptLine) (all : ℕ) → AppearInOrder seen ls all → seen ≤ all
appear-more seen [] all order = omega (arith, order)
appear-more seen (l ∷ ls) all order = omega (arith, seen-more seen (client_of l), appear-more (seen_with seen (client_of l)) ls all order.1)

client-within : (seen client : ℕ) → client ≤ seen → client < seen_with seen (Some client)
client-within seen client next = grind (arith, nat_tests)

-- the first lines in order, and how many are seen with them
record HasFront (names : List (List ℕ)) (ts : List (List ℕ)) (seen : ℕ) (all : ℕ) : Type 0 where
  pub front : List ScriptLine
  pub now : ℕ
  pub are : AreLines names ts front
  pub order : AppearInOrder seen front now
  pub within : now ≤ all

has-front : (names : List (List ℕ)) (ts us : List (List ℕ)) (ls : List ScriptLine) (seen all : ℕ) → AreLines names (ts ++ us) ls → AppearInOrder seen ls all → HasFront names ts seen all
has-front names [] us ls seen all are order = record { front = []; now = seen; are = tt; order = refl; within = appear-more seen ls all order }
has-front names (t ∷ ts) us [] seen all are order = absurd are
has-front names (t ∷ ts) us (l ∷ ls) seen all are order =
    let h = has-front names ts us ls (seen_with seen (client_of l)) all are.1 order.1 in
    record { front = l ∷ h.front; now = h.now; are = (are.0, h.are); order = (order.0, h.order); within = h.within }

-- they name the first names alone
rest-taken : (names : List (List ℕ)) (rest : List ℕ) (client : Option ℕ) (line : ScriptLine) (seen now : ℕ) → IsSeenOrNext seen client → seen_with seen client ≤ now → IsRest names rest client line → IsRest (take now names) rest client line
rest-taken names rest None line seen now next less is = is
rest-taken names rest (Some client) line seen now next less is = (taken-at names now client (first_word rest) (omega (arith, less, client-within seen client next)) is.0, is.1)

are-taken : (names : List (List ℕ)) (ts : List (List ℕ)) (ls : List ScriptLine) (seen now : ℕ) → AreLines names ts ls → AppearInOrder seen ls now → AreLines (take now names) ts ls
are-taken names [] [] seen now are order = tt
are-taken names [] (l ∷ ls) seen now are order = absurd are
are-taken names (t ∷ ts) [] seen now are order = absurd are
are-taken names (t ∷ ts) (l ∷ ls) seen now are order =
    let more : seen_with seen (client_of l) ≤ now = appear-more (seen_with seen (client_of l)) ls now order.1 in
    ((are.0.0, rest-taken names (after_word t) (client_of l) l seen now order.0 more are.0.1), are-taken names ts ls (seen_with seen (client_of l)) now are.1 order.1)

utf8-front : (before after : List (List ℕ)) → AllByRecursion IsUtf8 (before ++ after) → AllByRecursion IsUtf8 before
utf8-front [] after all = tt
utf8-front (l ∷ before) after all = (all.0, utf8-front before after all.1)

texts-append : (before after : List (List ℕ)) → texts (before ++ after) ≡ texts before ++ texts after
texts-append before after = ap (filter (λ t. not (is_skipped t))) (map-append said before after) ∙ filter-append (λ t. not (is_skipped t)) (map said before) (map said after)

script-front : (before after : List (List ℕ)) (script : Content) → IsScript (before ++ after) script → (front : Content) × IsScript before front
script-front before after script is =
    let are : AreLines script.names (texts before ++ texts after) script.lines = subst (λ ts. AreLines script.names ts script.lines) (texts-append before after) is.each in
    let h : HasFront script.names (texts before) 0 (length script.names) = has-front script.names (texts before) (texts after) script.lines 0 (length script.names) are is.clients.order in
    let long : length (take h.now script.names) ≡ h.now = length-take-le h.now script.names h.within in
    let front : Content = record { names = take h.now script.names; lines = h.front } in (
      front,
      record {
        utf8 = utf8-front before after is.utf8;
        each = are-taken script.names (texts before) h.front 0 h.now h.are h.order;
        clients = record {
          forms = λ client name at. is.clients.forms client name (taken-from script.names h.now client name at);
          differ = λ client other name at at'. is.clients.differ client other name (taken-from script.names h.now client name at) (taken-from script.names h.now other name at');
          few = (let few = is.clients.few in let within = h.within in omega (arith, long));
          order = subst (λ n. AppearInOrder 0 h.front n) (sym long) h.order;
        };
      },
    )

-- where a line is the first bad one, the lines stand for no script
bad-none : (ls : List (List ℕ)) (number : ℕ) (kind : LineFault) → IsFirstBad ls number kind → (script : Content) → ¬ (IsScript ls script)
bad-none ls number kind bad script is =
    let parts : ls ≡ (bad.before ++ bad.line ∷ []) ++ bad.after = bad.parts ∙ sym (append_assoc bad.before (bad.line ∷ []) bad.after) in
    let front = script-front (bad.before ++ bad.line ∷ []) bad.after script (subst (λ l. IsScript l script) parts is) in
    bad.bad front.0 front.1

pub cause-none : (bytes : List ℕ) (error : ScriptError) → IsScriptCause bytes error → error ≢ OutOfMemory → (script : Content) → ¬ (IsScriptOf bytes script)
cause-none bytes TooLarge large other script is = absurd (let small = is.small in omega (arith, large))
cause-none bytes (At line kind) bad other script is = bad-none (lines bytes) line kind bad.1 script is.script
cause-none bytes OutOfMemory free other script is = absurd (other refl)
