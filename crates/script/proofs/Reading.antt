-- Lines that stand for a script, one by one.
use Rattle.std.proofs.Common.{◌≡◌, ◌∙◌, ℕ, ◌+◌, ◌<◌, ◌≤◌, ◌==◌, inl, inr, nat_lt, append-nil, Bool, true, false, not, ◌||◌, cond, List, [], ◌∷◌, ◌++◌, length, codes, refl, sym, ap, subst, arith, Option, Some, None, is_some, Result, Ok, Err, MatchResult, map, filter}
use Rattle.std.specs.Prelude.{slice_get}
use Rattle.std.specs.List.{AllByRecursion}
use Rattle.std.specs.Str.{IsUtf8, bytes_eq}
use Rattle.std.proofs.lemmas.Bool.Decides.{nat_tests}
use Rattle.std.proofs.lemmas.Option.{slice_get_within}
use Rattle.std.proofs.lemmas.List.{map-append}
use Rattle.std.proofs.lemmas.List.Elements.{filter-append}
use Rattle.script.specs.declared.line.ScriptLine.{ScriptLine}
use Rattle.script.specs.declared.line.ScriptLine.TheVariants.{Join, Leave, Edit, Post, PostReport, Send, Recv, Sync, Show, Pending, Settle, Cells, Book, RawJoin, Raw}
use Rattle.script.specs.declared.content.Content.{Content}
use Rattle.script.specs.declared.error.LineError.{LineError}
use Rattle.script.specs.declared.error.LineError.TheVariants.{Fault, OutOfMemory}
use Rattle.script.specs.declared.error.LineFault.TheVariants.{NotUtf8}
use Rattle.script.specs.Words.{first_word, after_word}
use Rattle.script.specs.Lines.{texts, said, is_skipped}
use Rattle.script.specs.Line.{word_of, client_of, IsRest, IsLine}
use Rattle.script.specs.Clients.{IsSeenOrNext, seen_with, AppearInOrder, AreNames, Differ}
use Rattle.script.specs.Script.{AreLines, IsScript, IsFault}
use Rattle.script.specs.Next.{HasNumber, IsNextRest, IsNextLine, IsNext, IsUnfit, ReadsOn, IsStop}
use Rattle.script.proofs.Numbers.{seen-new, AppearedBefore, appear-last}
use Rattle.script.proofs.Single.{line-same, lists-same}
use Rattle.script.proofs.Following.{GrowsTo, grows, rest-new, numbered-next}

-- UTF-8 of all lines and of one more
AllUtf8-push : (ls : List (List ℕ)) (line : List ℕ) → AllByRecursion IsUtf8 ls → IsUtf8 line → AllByRecursion IsUtf8 (ls ++ line ∷ [])
AllUtf8-push [] line all one = (one, tt)
AllUtf8-push (l ∷ ls) line all one = (all.0, AllUtf8-push ls line all.1 one)

AllUtf8-last : (ls : List (List ℕ)) (line : List ℕ) → AllByRecursion IsUtf8 (ls ++ line ∷ []) → IsUtf8 line
AllUtf8-last [] line all = all.0
AllUtf8-last (l ∷ ls) line all = AllUtf8-last ls line all.1

-- what one more line says
texts-push : (ls : List (List ℕ)) (line : List ℕ) → texts (ls ++ line ∷ []) ≡ texts ls ++ texts (line ∷ [])
texts-push ls line =
    ap (filter (λ t. not (is_skipped t))) (map-append said ls (line ∷ [])) ∙ filter-append (λ t. not (is_skipped t)) (map said ls) (said line ∷ [])

one_kept : (t : List ℕ) (b : Bool) → b ≡ false → cond (not b) (t ∷ []) [] ≡ t ∷ []
one_kept t true e = absurd (cc)
one_kept t false e = refl

one_left_out : (t : List ℕ) (b : Bool) → b ≡ true → cond (not b) (t ∷ []) [] ≡ []
one_left_out t true e = refl
one_left_out t false e = absurd (cc)

pub texts-kept : (ls : List (List ℕ)) (line : List ℕ) → is_skipped (said line) ≡ false → texts (ls ++ line ∷ []) ≡ texts ls ++ said line ∷ []
texts-kept ls line kept = texts-push ls line ∙ ap (λ ts. texts ls ++ ts) (one_kept (said line) (is_skipped (said line)) kept)

pub texts-skipped : (ls : List (List ℕ)) (line : List ℕ) → is_skipped (said line) ≡ true → texts (ls ++ line ∷ []) ≡ texts ls
texts-skipped ls line skipped = texts-push ls line ∙ ap (λ ts. texts ls ++ ts) (one_left_out (said line) (is_skipped (said line)) skipped) ∙ append-nil (texts ls)

-- texts and lines, place by place
AreLines-none : (names : List (List ℕ)) (ts : List (List ℕ)) → AreLines names ts [] → ts ≡ []
AreLines-none names [] are = refl
AreLines-none names (t ∷ ts) are = absurd are

AreLines-nothing : (names : List (List ℕ)) (ls : List ScriptLine) → AreLines names [] ls → ls ≡ []
AreLines-nothing names [] are = refl
AreLines-nothing names (l ∷ ls) are = absurd are

AreLines-push : (names : List (List ℕ)) (ts : List (List ℕ)) (ls : List ScriptLine) (t : List ℕ) (l : ScriptLine) → AreLines names ts ls → IsLine names t l → AreLines names (ts ++ t ∷ []) (ls ++ l ∷ [])
AreLines-push names [] [] t l are is = (is, tt)
AreLines-push names [] (x ∷ ls) t l are is = absurd are
AreLines-push names (s ∷ ts) [] t l are is = absurd are
AreLines-push names (s ∷ ts) (x ∷ ls) t l are is = (are.0, AreLines-push names ts ls t l are.1 is)

-- the lines of some texts and one more
record HasLast (names : List (List ℕ)) (ts : List (List ℕ)) (t : List ℕ) (ls : List ScriptLine) : Type 0 where
  pub front : List ScriptLine
  pub last : ScriptLine
  pub parts : ls ≡ front ++ last ∷ []
  pub are : AreLines names ts front
  pub is : IsLine names t last

AreLines-last : (names : List (List ℕ)) (ts : List (List ℕ)) (t : List ℕ) (ls : List ScriptLine) → AreLines names (ts ++ t ∷ []) ls → HasLast names ts t ls
AreLines-last names [] t [] are = absurd are
AreLines-last names [] t (l ∷ []) are = record { front = []; last = l; parts = refl; are = tt; is = are.0 }
AreLines-last names [] t (l ∷ m ∷ ls) are = absurd are.1
AreLines-last names (s ∷ ts) t [] are = absurd are
AreLines-last names (s ∷ ts) t (l ∷ ls) are =
    let h = AreLines-last names ts t ls are.1 in
    record { front = l ∷ h.front; last = h.last; parts = ap (λ m. l ∷ m) h.parts; are = (are.0, h.are); is = h.is }

-- the names before are the first ones after, so lines stay what they were
rest-grown : (names new : List (List ℕ)) (rest : List ℕ) (client : Option ℕ) (line : ScriptLine) → ((place : ℕ) (name : List ℕ) → slice_get names place ≡ Some name → slice_get new place ≡ Some name) → IsRest names rest client line → IsRest new rest client line
rest-grown names new rest None line kept is = is
rest-grown names new rest (Some client) line kept is = (kept client (first_word rest) is.0, is.1)

are-grown : (names new : List (List ℕ)) (ts : List (List ℕ)) (ls : List ScriptLine) → ((place : ℕ) (name : List ℕ) → slice_get names place ≡ Some name → slice_get new place ≡ Some name) → AreLines names ts ls → AreLines new ts ls
are-grown names new [] [] kept are = tt
are-grown names new [] (l ∷ ls) kept are = absurd are
are-grown names new (t ∷ ts) [] kept are = absurd are
are-grown names new (t ∷ ts) (l ∷ ls) kept are = ((are.0.0, rest-grown names new (after_word t) (client_of l) l kept are.0.1), are-grown names new ts ls kept are.1)

-- a line that is skipped changes nothing
pub IsScript-skipped : (before : List (List ℕ)) (line : List ℕ) (script : Content) → IsScript before script → IsUtf8 line → is_skipped (said line) ≡ true → IsScript (before ++ line ∷ []) script
IsScript-skipped before line script is utf8 skipped =
    record {
      utf8 = AllUtf8-push before line is.utf8 utf8;
      each = subst (λ ts. AreLines script.names ts script.lines) (sym (texts-skipped before line skipped)) is.each;
      clients = is.clients;
    }

-- one more line makes the next script
IsScript-next : (before : List (List ℕ)) (line : List ℕ) (old new : Content) → IsScript before old → IsUtf8 line → is_skipped (said line) ≡ false → IsNext old (first_word (said line)) (after_word (said line)) new → IsScript (before ++ line ∷ []) new
IsScript-next before line old new is utf8 kept next =
    let rest : List ℕ = after_word (said line) in
    let g : GrowsTo old.names (client_of next.line) new.names = subst (λ n. GrowsTo old.names (client_of next.line) n) (sym next.names) (grows old.names (client_of next.line) rest next.line is.clients.forms is.clients.differ is.clients.few next.is.1) in
    let last : IsLine new.names (said line) next.line = (next.is.0, subst (λ n. IsRest n rest (client_of next.line) next.line) (sym next.names) (rest-new old.names (client_of next.line) rest next.line next.is.1)) in
    let are : AreLines new.names (texts before ++ said line ∷ []) (old.lines ++ next.line ∷ []) = AreLines-push new.names (texts before) old.lines (said line) next.line (are-grown old.names new.names (texts before) old.lines g.kept is.each) last in
    record {
      utf8 = AllUtf8-push before line is.utf8 utf8;
      each = rw (texts-kept before line kept, next.added) are;
      clients = numbered-next old new (first_word (said line)) rest is.clients next;
    }

-- whether lines that begin with the word have a client
abbrev has_client : List ℕ → Bool
has_client word = not (bytes_eq word (codes "sync") || bytes_eq word (codes "settle") || bytes_eq word (codes "cells") || bytes_eq word (codes "book"))

client-by-word : (line : ScriptLine) → is_some (client_of line) ≡ has_client (word_of line)
client-by-word (Join client) = refl
client-by-word (Leave client) = refl
client-by-word (Edit client cell delta) = refl
client-by-word (Post client op) = refl
client-by-word (PostReport client cell) = refl
client-by-word (Send client count) = refl
client-by-word (Recv client count) = refl
client-by-word (Sync) = refl
client-by-word (Show client) = refl
client-by-word (Pending client cell) = refl
client-by-word (Settle) = refl
client-by-word (Cells) = refl
client-by-word (Book) = refl
client-by-word (RawJoin client) = refl
client-by-word (Raw client op) = refl

-- two lists have the same names at the first places
abbrev Agree : List (List ℕ) → List (List ℕ) → ℕ → Type 0
Agree names names' seen = (place : ℕ) → place < seen → slice_get names place ≡ slice_get names' place

-- a word's clients in both are the same, where each is one seen before or the next new one
client-same : (names names' : List (List ℕ)) (seen : ℕ) (word : List ℕ) (client client' : ℕ) → Differ names → Differ names' → Agree names names' seen → client ≤ seen → client' ≤ seen → slice_get names client ≡ Some word → slice_get names' client' ≡ Some word → client ≡ client'
client-same names names' seen word client client' differ differ' agree next next' at at' =
    elim (nat_lt client seen) as (λ b. nat_lt client seen ≡ b → client ≡ client') [
      | true ↦ λ t. (let old : client < seen = grind (arith, nat_tests) in differ' client client' word (sym (agree client old) ∙ at) at')
      | false ↦ λ f. (
          let new : client ≡ seen = grind (arith, nat_tests) in
          elim (nat_lt client' seen) as (λ b. nat_lt client' seen ≡ b → client ≡ client') [
            | true ↦ λ t. (let old : client' < seen = grind (arith, nat_tests) in differ client client' word at (agree client' old ∙ at'))
            | false ↦ λ g. grind (arith, nat_tests)
          ] refl)
    ] refl

agree-with : (names names' : List (List ℕ)) (seen : ℕ) (word : List ℕ) (client : ℕ) → Agree names names' seen → slice_get names client ≡ Some word → slice_get names' client ≡ Some word → Agree names names' (seen_with seen (Some client))
agree-with names names' seen word client agree at at' place less =
    elim (place == client) as (λ b. (place == client) ≡ b → slice_get names place ≡ slice_get names' place) [
      | true ↦ λ t. (let e : place ≡ client = grind (arith, nat_tests) in ap (λ k. slice_get names k) e ∙ at ∙ sym at' ∙ ap (λ k. slice_get names' k) (sym e))
      | false ↦ λ f. agree place (grind (arith, nat_tests, less, f))
    ] refl

-- what follows one line's word has the same client for both
rest-same : (names names' : List (List ℕ)) (seen : ℕ) (rest : List ℕ) (client client' : Option ℕ) (line line' : ScriptLine) → Differ names → Differ names' → Agree names names' seen → is_some client ≡ is_some client'
    → IsRest names rest client line → IsRest names' rest client' line' → IsSeenOrNext seen client → IsSeenOrNext seen client' → (client ≡ client') × Agree names names' (seen_with seen client)
rest-same names names' seen rest None None line line' differ differ' agree both is is' next next' = (refl, agree)
rest-same names names' seen rest None (Some client') line line' differ differ' agree both is is' next next' = absurd (cc)
rest-same names names' seen rest (Some client) None line line' differ differ' agree both is is' next next' = absurd (cc)
rest-same names names' seen rest (Some client) (Some client') line line' differ differ' agree both is is' next next' =
    let same : client ≡ client' = client-same names names' seen (first_word rest) client client' differ differ' agree next next' is.0 is'.0 in
    (ap Some same, agree-with names names' seen (first_word rest) client agree is.0 (subst (λ k. slice_get names' k ≡ Some (first_word rest)) (sym same) is'.0))

-- lines of the same texts are the same, and number the same names
names-same : (names names' : List (List ℕ)) (seen all all' : ℕ) (ts : List (List ℕ)) (ls ls' : List ScriptLine) → Differ names → Differ names' → Agree names names' seen
    → AreLines names ts ls → AreLines names' ts ls' → AppearInOrder seen ls all → AppearInOrder seen ls' all' → (all ≡ all') × Agree names names' all × (ls ≡ ls')
names-same names names' seen all all' [] [] [] differ differ' agree are are' order order' = (sym order ∙ order', subst (Agree names names') order agree, refl)
names-same names names' seen all all' [] [] (l' ∷ ls') differ differ' agree are are' order order' = absurd are'
names-same names names' seen all all' [] (l ∷ ls) ls' differ differ' agree are are' order order' = absurd are
names-same names names' seen all all' (t ∷ ts) [] ls' differ differ' agree are are' order order' = absurd are
names-same names names' seen all all' (t ∷ ts) (l ∷ ls) [] differ differ' agree are are' order order' = absurd are'
names-same names names' seen all all' (t ∷ ts) (l ∷ ls) (l' ∷ ls') differ differ' agree are are' order order' =
    let words : word_of l ≡ word_of l' = sym are.0.0 ∙ are'.0.0 in
    let both : is_some (client_of l) ≡ is_some (client_of l') = client-by-word l ∙ ap has_client words ∙ sym (client-by-word l') in
    let same = rest-same names names' seen (after_word t) (client_of l) (client_of l') l l' differ differ' agree both are.0.1 are'.0.1 order.0 order'.0 in
    let after' : AppearInOrder (seen_with seen (client_of l)) ls' all' = subst (λ c. AppearInOrder (seen_with seen c) ls' all') (sym same.0) order'.1 in
    let rest = names-same names names' (seen_with seen (client_of l)) all all' ts ls ls' differ differ' same.1 are.1 are'.1 order.1 after' in
    (rest.0, rest.1, ap (λ x. x ∷ ls) (line-same names names' t l l' are.0 are'.0 same.0) ∙ ap (λ xs. l' ∷ xs) rest.2)

-- lines of bytes stand for one script at most
pub scripts-same : (ls : List (List ℕ)) (one other : Content) → IsScript ls one → IsScript ls other → one ≡ other
scripts-same ls one other is is' =
    let same = names-same one.names other.names 0 (length one.names) (length other.names) (texts ls) one.lines other.lines is.clients.differ is'.clients.differ (λ place less. absurd (omega (arith, less))) is.each is'.each is.clients.order is'.clients.order in
    let names : one.names ≡ other.names = lists-same one.names other.names same.0 same.1 in
    ap (λ n. let c : Content = record { names = n; lines = one.lines } in c) names ∙ ap (λ l. let c : Content = record { names = other.names; lines = l } in c) same.2

-- the number that a name has in names that begin so, one seen before or the next new one
has-before : (names new : List (List ℕ)) (name : List ℕ) (client : ℕ) → AreNames new → Differ new → length new ≤ 64 → Agree names new (length names) → client ≤ length names → seen_with (length names) (Some client) ≡ length new → slice_get new client ≡ Some name → HasNumber names name client
has-before names new name client forms differ few agree next seen at =
    elim (nat_lt client (length names)) as (λ b. nat_lt client (length names) ≡ b → HasNumber names name client) [
      | true ↦ λ t. (let old : client < length names = grind (arith, nat_tests) in inl (agree client old ∙ at))
      | false ↦ λ f. (
          let last : client ≡ length names = grind (arith, nat_tests) in
          let longer : length names + 1 ≡ length new = sym (seen-new (length names) client last) ∙ seen in
          inr (
            last,
            record {
              new = λ place here. (
                  let within : place < length names = slice_get_within names place name here in
                  let same : place ≡ client = differ place client name (sym (agree place within) ∙ here) at in
                  omega (arith, within, same, last)
                  );
              form = forms client name at;
              few = omega (arith, longer, few);
            },
          ))
    ] refl

rest-before : (names new : List (List ℕ)) (rest : List ℕ) (client : Option ℕ) (line : ScriptLine) → AreNames new → Differ new → length new ≤ 64 → Agree names new (length names) → IsSeenOrNext (length names) client → seen_with (length names) client ≡ length new → IsRest new rest client line → IsNextRest names rest client line
rest-before names new rest None line forms differ few agree next seen is = is
rest-before names new rest (Some client) line forms differ few agree next seen is = (has-before names new (first_word rest) client forms differ few agree next seen is.0, is.1)

-- a script of some lines and one more has a line that follows the script of those lines
line-before : (before : List (List ℕ)) (line : List ℕ) (old new : Content) → IsScript before old → is_skipped (said line) ≡ false → IsScript (before ++ line ∷ []) new → (last : ScriptLine) × IsNextLine old.names (first_word (said line)) (after_word (said line)) last
line-before before line old new is kept script =
    let are : AreLines new.names (texts before ++ said line ∷ []) new.lines = subst (λ ts. AreLines new.names ts new.lines) (texts-kept before line kept) script.each in
    let has : HasLast new.names (texts before) (said line) new.lines = AreLines-last new.names (texts before) (said line) new.lines are in
    let order : AppearInOrder 0 (has.front ++ has.last ∷ []) (length new.names) = subst (λ ls. AppearInOrder 0 ls (length new.names)) has.parts script.clients.order in
    let appeared : AppearedBefore 0 has.front has.last (length new.names) = appear-last 0 has.front has.last (length new.names) order in
    let same = names-same old.names new.names 0 (length old.names) appeared.all (texts before) old.lines has.front is.clients.differ script.clients.differ (λ place less. absurd (omega (arith, less))) is.each has.are is.clients.order appeared.order in
    let next : IsSeenOrNext (length old.names) (client_of has.last) = subst (λ n. IsSeenOrNext n (client_of has.last)) (sym same.0) appeared.next in
    let seen : seen_with (length old.names) (client_of has.last) ≡ length new.names = subst (λ n. seen_with n (client_of has.last) ≡ length new.names) (sym same.0) appeared.with in
    (has.last, (has.is.0, rest-before old.names new.names (after_word (said line)) (client_of has.last) has.last script.clients.forms script.clients.differ script.clients.few same.1 next seen has.is.1))

-- what taking a line's text says of the line
stop-from_unfit : (line : List ℕ) (old : Content) (e : LineError) → IsUtf8 line → is_skipped (said line) ≡ false → IsUnfit old (first_word (said line)) (after_word (said line)) e → IsStop line old e
stop-from_unfit line old (Fault kind) utf8 kept unfit =
    (subst (IsFault line) (sym unfit.0) utf8, λ before new is script. (let found = line-before before line old new is kept script in unfit.1 found.0 found.1))
stop-from_unfit line old OutOfMemory utf8 kept unfit = tt

pub read-from_taken : (line : List ℕ) (old : Content) (r : Result Content LineError) → IsUtf8 line → is_skipped (said line) ≡ false
    → MatchResult r (IsNext old (first_word (said line)) (after_word (said line))) (IsUnfit old (first_word (said line)) (after_word (said line))) → MatchResult r (ReadsOn line old) (IsStop line old)
read-from_taken line old (Ok new) utf8 kept next = λ before is. IsScript-next before line old new is utf8 kept next
read-from_taken line old (Err e) utf8 kept unfit = stop-from_unfit line old e utf8 kept unfit

-- a line that isn't UTF-8 stops
pub stop-from_bytes : (line : List ℕ) (old : Content) → ¬ (IsUtf8 line) → IsStop line old (Fault NotUtf8)
stop-from_bytes line old broken = (broken, λ before new is script. broken (AllUtf8-last before line script.utf8))
