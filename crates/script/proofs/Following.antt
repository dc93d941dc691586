-- A word and what follows it as the line after lines with some names.
use Rattle.std.proofs.Common.{◌≡◌, ◌∙◌, ℕ, ◌<◌, ◌+◌, ◌≤◌, inl, inr, List, [], ◌∷◌, ◌++◌, length, length-append, refl, sym, ap, subst, arith, Option, Some, None, Result, Ok, Err, IfOk}
use Rattle.std.specs.Prelude.{slice_get}
use Rattle.std.specs.Str.{chars}
use Rattle.std.proofs.lemmas.Option.{slice_get_within}
use Rattle.script.specs.declared.line.ScriptLine.{ScriptLine}
use Rattle.script.specs.declared.content.Content.{Content}
use Rattle.script.specs.Words.{first_word, after_word}
use Rattle.script.specs.Line.{client_of, IsRest}
use Rattle.script.specs.Clients.{IsSeenOrNext, seen_with, AreNames, Differ, IsNumbered}
use Rattle.script.specs.Next.{IsNewName, HasNumber, IsPlainLine, IsClientLine, Tells, IsNextRest, IsNextLine, names_with, IsNext}
use Rattle.script.proofs.Spelling.{name-chars}
use Rattle.script.proofs.Numbers.{kept-at, last-at, seen-old, seen-new, names-old, names-new, number-same, forms-grown, differ-grown, appear-push}

-- no line without a client, and no number for the name
pub next-none : (names : List (List ℕ)) (word rest : List ℕ) → Tells (IsPlainLine word rest) None → ((client : ℕ) → ¬ (HasNumber names (first_word rest) client)) → (line : ScriptLine) → ¬ (IsNextLine names word rest line)
next-none names word rest plain none line is =
    elim (client_of line) as (λ c. client_of line ≡ c → IsNextRest names rest c line → ⊥) [
      | None ↦ λ e r. plain line (record { word_is = is.0; client = e; end_is = r })
      | Some client ↦ λ e r. none client r.0
    ] refl is.1

client-there : (names : List (List ℕ)) (word rest : List ℕ) (client : ℕ) (line : ScriptLine) → HasNumber names (first_word rest) client → IsClientLine word client (after_word rest) line → IsNextLine names word rest line
client-there names word rest client line has is = (is.word_is, subst (λ c. IsNextRest names rest c line) (sym is.client) (has, is.end_is))

client-back : (names : List (List ℕ)) (word rest : List ℕ) (client : ℕ) (line : ScriptLine) → Differ names → Tells (IsPlainLine word rest) None → HasNumber names (first_word rest) client → IsNextLine names word rest line → IsClientLine word client (after_word rest) line
client-back names word rest client line differ plain has is =
    elim (client_of line) as (λ c. client_of line ≡ c → IsNextRest names rest c line → IsClientLine word client (after_word rest) line) [
      | None ↦ λ e r. absurd (plain line (record { word_is = is.0; client = e; end_is = r }))
      | Some other ↦ λ e r. record { word_is = is.0; client = e ∙ ap Some (number-same names (first_word rest) other client differ r.0 has); end_is = r.1 }
    ] refl is.1

-- no line without a client, and the name has a number
pub next-client : {E : Type 0} (names : List (List ℕ)) (word rest : List ℕ) (client : ℕ) (answer : Result (Option ScriptLine) E) → Differ names → Tells (IsPlainLine word rest) None → HasNumber names (first_word rest) client
    → IfOk answer (Tells (IsClientLine word client (after_word rest))) → IfOk answer (Tells (IsNextLine names word rest))
next-client names word rest client (Ok None) differ plain has tells = λ line is. tells line (client-back names word rest client line differ plain has is)
next-client names word rest client (Ok (Some line)) differ plain has tells = client-there names word rest client line has tells
next-client names word rest client (Err e) differ plain has tells = tt

-- what the names and the numbers are after a line of this client
pub record GrowsTo (names : List (List ℕ)) (client : Option ℕ) (new : List (List ℕ)) : Type 0 where
  pub kept : (place : ℕ) (name : List ℕ) → slice_get names place ≡ Some name → slice_get new place ≡ Some name
  pub forms : AreNames new
  pub differ : Differ new
  pub few : length new ≤ 64
  pub next : IsSeenOrNext (length names) client
  pub seen : seen_with (length names) client ≡ length new

grows-not : (names : List (List ℕ)) (client : ℕ) → AreNames names → Differ names → length names ≤ 64 → client < length names → GrowsTo names (Some client) names
grows-not names client forms differ few old =
    record { kept = λ place name e. e; forms = forms; differ = differ; few = few; next = omega (arith, old); seen = seen-old (length names) client old }

grows-one : (names : List (List ℕ)) (client : ℕ) (name : List ℕ) → AreNames names → Differ names → client ≡ length names → IsNewName names name → GrowsTo names (Some client) (names ++ name ∷ [])
grows-one names client name forms differ e new =
    let longer : length (names ++ name ∷ []) ≡ length names + 1 = length-append names (name ∷ []) in
    record {
      kept = kept-at names (name ∷ []);
      forms = forms-grown names name forms new;
      differ = differ-grown names name differ new;
      few = (let few = new.few in omega (arith, longer));
      next = omega (arith, e);
      seen = seen-new (length names) client e ∙ sym longer;
    }

pub grows : (names : List (List ℕ)) (client : Option ℕ) (rest : List ℕ) (line : ScriptLine) → AreNames names → Differ names → length names ≤ 64 → IsNextRest names rest client line → GrowsTo names client (names_with names client (first_word rest))
grows names None rest line forms differ few is = record { kept = λ place name e. e; forms = forms; differ = differ; few = few; next = tt; seen = refl }
grows names (Some client) rest line forms differ few (inl at, end) =
    let old : client < length names = slice_get_within names client (first_word rest) at in
    subst (λ n. GrowsTo names (Some client) n) (sym (names-old names client (first_word rest) old)) (grows-not names client forms differ few old)
grows names (Some client) rest line forms differ few (inr new, end) =
    subst (λ n. GrowsTo names (Some client) n) (sym (names-new names client (first_word rest) new.0)) (grows-one names client (first_word rest) forms differ new.0 new.1)

-- the text's line with the names after it
pub rest-new : (names : List (List ℕ)) (client : Option ℕ) (rest : List ℕ) (line : ScriptLine) → IsNextRest names rest client line → IsRest (names_with names client (first_word rest)) rest client line
rest-new names None rest line is = is
rest-new names (Some client) rest line (inl at, end) =
    let old : client < length names = slice_get_within names client (first_word rest) at in
    (subst (λ n. slice_get n client ≡ Some (first_word rest)) (sym (names-old names client (first_word rest) old)) at, end)
rest-new names (Some client) rest line (inr new, end) =
    let last : slice_get (names ++ first_word rest ∷ []) client ≡ Some (first_word rest) = subst (λ k. slice_get (names ++ first_word rest ∷ []) k ≡ Some (first_word rest)) (sym new.0) (last-at names (first_word rest)) in
    (subst (λ n. slice_get n client ≡ Some (first_word rest)) (sym (names-new names client (first_word rest) new.0)) last, end)

-- a new name's characters are its bytes
pub names-spelled : (names : List (List ℕ)) (client : Option ℕ) (rest : List ℕ) (line : ScriptLine) → IsNextRest names rest client line → names_with names client (chars (first_word rest)) ≡ names_with names client (first_word rest)
names-spelled names None rest line is = refl
names-spelled names (Some client) rest line (inl at, end) =
    let old : client < length names = slice_get_within names client (first_word rest) at in
    names-old names client _ old ∙ sym (names-old names client _ old)
names-spelled names (Some client) rest line (inr new, end) = ap (λ n. names_with names (Some client) n) (name-chars (first_word rest) new.1.form)

-- a script goes on keeping its rules
pub numbered-next : (old new : Content) (word rest : List ℕ) → IsNumbered old → IsNext old word rest new → IsNumbered new
numbered-next old new word rest is next =
    let g : GrowsTo old.names (client_of next.line) new.names = subst (λ n. GrowsTo old.names (client_of next.line) n) (sym next.names) (grows old.names (client_of next.line) rest next.line is.forms is.differ is.few next.is.1) in
    record {
      forms = g.forms;
      differ = g.differ;
      few = g.few;
      order = rw next.added (appear-push 0 old.lines next.line (length old.names) (length new.names) is.order g.next g.seen);
    }

pub next-made : (old new : Content) (word rest : List ℕ) (line : ScriptLine) → IsNextLine old.names word rest line → new.lines ≡ old.lines ++ line ∷ [] → new.names ≡ names_with old.names (client_of line) (chars (first_word rest)) → IsNext old word rest new
next-made old new word rest line is added names = record { line = line; is = is; added = added; names = names ∙ names-spelled old.names (client_of line) rest line is.1 }
