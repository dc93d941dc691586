-- From the parts' answers to the program's.
use Rattle.std.proofs.Common.{◌≡◌, ◌≢◌, ℕ, ◌≤◌, ◌<◌, inl, inr, length, get_or, OnOk, OnErr, IsErrOf, Bool, false, true, List, [], ◌∷◌, map, Option, Some, None, Result, Ok, Err, refl, sym, ap, subst, ◌∙◌, arith}
use Rattle.book_outside.specs.Outside.{Rose, GivesFront, with_reading}
use Rattle.livemd_read.specs.declared.types.Read.{Read}
use Rattle.livemd_read.specs.declared.types.BookError.{BookError}
use Rattle.livemd_read.specs.declared.types.BookError.TheVariants.{OutOfMemory as BookMemory}
use Rattle.livemd_format.specs.Accepts.{IsAccepted}
use Rattle.livemd_read.specs.Causes.{IsBookCause}
use Rattle.livemd_read.proofs.Causes.{accepted_cause}
use Rattle.script.specs.declared.content.Content.{Content}
use Rattle.driver.specs.declared.outcome.Report.{Report}
use Rattle.driver.specs.declared.outcome.RunFault.{RunFault}
use Rattle.driver.specs.declared.outcome.RunFault.TheVariants.{Usage, BookUnread, BookRefused, ScriptUnread, ScriptRefused, SinkFailed, OutOfMemory}
use Rattle.driver.specs.declared.play.Played.{Played}
use Rattle.driver.specs.declared.play.Played.TheVariants.{Done, SinkFailed as PlayCut, OutOfMemory as PlayMemory}
use Rattle.driver.specs.Ends.{IsPlayedSo}
use Rattle.driver.specs.Lines.{notice_line}
use Rattle.script.proofs.Fronts.{cause-none}
use Rattle.driver.specs.Around.{Input, Around}
use Rattle.driver.specs.Program.{IsPlay, IsFormat, NamesBook, IsAnswer, IsFormatAnswer, IsComplete, BookIsAccepted, ScriptIsAccepted, BothWereRead, format_words, most_bytes}
use Rattle.driver.specs.Answers.{BytesAreBook, BytesAreScript, IsBookAnswer, IsScriptAnswer, IsWriting, HasReadBook, outcome_of}

pub rose-later : (old mid new : ℕ) → old ≤ mid → Rose mid new → Rose old new
rose-later old mid new le r = omega (arith, le, r)

-- bytes that were read under a name, and what they are
pub book-given : (held : Option (List (List ℕ × List ℕ))) (name bytes : List ℕ) (before after : Input) (r : Result Read RunFault) → GivesFront held name most_bytes bytes → after.readings ≡ with_reading before.readings name false → BytesAreBook bytes r
    → IsBookAnswer held name before after r
book-given held name bytes before after (Ok r) f e h = record { bytes = bytes; front = f; reads = e; so = h }
book-given held name bytes before after (Err Usage) f e h = absurd h
book-given held name bytes before after (Err BookUnread) f e h = absurd h
book-given held name bytes before after (Err (BookRefused why)) f e h = record { bytes = bytes; front = f; reads = e; so = h }
book-given held name bytes before after (Err ScriptUnread) f e h = absurd h
book-given held name bytes before after (Err (ScriptRefused why)) f e h = absurd h
book-given held name bytes before after (Err SinkFailed) f e h = absurd h
book-given held name bytes before after (Err OutOfMemory) f e h = tt

pub script-given : (held : Option (List (List ℕ × List ℕ))) (name bytes : List ℕ) (before after : Input) (r : Result Content RunFault) → GivesFront held name most_bytes bytes → after.readings ≡ with_reading before.readings name false → BytesAreScript bytes r
    → IsScriptAnswer held name before after r
script-given held name bytes before after (Ok s) f e h = record { bytes = bytes; front = f; reads = e; so = h }
script-given held name bytes before after (Err Usage) f e h = absurd h
script-given held name bytes before after (Err BookUnread) f e h = absurd h
script-given held name bytes before after (Err (BookRefused why)) f e h = absurd h
script-given held name bytes before after (Err ScriptUnread) f e h = absurd h
script-given held name bytes before after (Err (ScriptRefused why)) f e h = record { bytes = bytes; front = f; reads = e; so = h }
script-given held name bytes before after (Err SinkFailed) f e h = absurd h
script-given held name bytes before after (Err OutOfMemory) f e h = tt

-- a book that couldn't be read or was refused
pub book-ended : (words : List (List ℕ)) (a : Around) (book : List ℕ) (fault : RunFault) → NamesBook words book → IsBookAnswer a.held book a.shelf_before a.shelf_after (Err fault) → a.sink_after ≡ a.sink_before → IsAnswer words a None (Some fault)
book-ended words a book Usage form h e = absurd h
book-ended words a book BookUnread form h e = (record { book = book; form = form; reads = h.reads; rose = h.rose; unwritten = e }, refl)
book-ended words a book (BookRefused why) form h e = (record { read = record { book = book; named = form; bytes = h.bytes; front = h.front }; reads = h.reads; cause = h.so.0; named = h.so.1; unwritten = e }, refl)
book-ended words a book ScriptUnread form h e = absurd h
book-ended words a book (ScriptRefused why) form h e = absurd h
book-ended words a book SinkFailed form h e = absurd h
book-ended words a book OutOfMemory form h e = (record { form = (book, form); left = inl (ap (λ o. o.written) e) }, refl)

-- a book that is refused is not accepted: no status but 2, 3 and 7 can come
pub refused-not-accepted : (bytes : List ℕ) (why : BookError) → IsBookCause bytes why → why ≢ BookMemory → ¬ IsAccepted bytes
refused-not-accepted bytes why cause named accepted = named (accepted_cause bytes why accepted cause)

-- a book that was read is accepted
abbrev book-accepted : (words : List (List ℕ)) (held : Option (List (List ℕ × List ℕ))) (book : List ℕ) (before after : Input) (r : Read) → NamesBook words book → IsBookAnswer held book before after (Ok r) → BookIsAccepted words held
book-accepted words held book before after r form h = record { read = record { book = book; named = form; bytes = h.bytes; front = h.front }; accepted = h.so.0; notebook = r.notebook; notices = r.notices; reads = h.so.1 }

-- a book that was read, to be played over
pub book-read : (words : List (List ℕ)) (held : Option (List (List ℕ × List ℕ))) (book script : List ℕ) (before after : Input) (r : Read) → IsPlay words book script → IsBookAnswer held book before after (Ok r) → before.faults ≤ after.faults → HasReadBook words held script r before after
book-read words held book script before after r form h le = record { accepted = book-accepted words held book before after r (inl (script, form)) h; form = form; notebook = refl; notices = refl; reads = h.reads; counts = le }

-- a script that was read behind its book
both-read : (words : List (List ℕ)) (a : Around) (mid : Input) (script : List ℕ) (r : Read) (failed : Bool) → (b : HasReadBook words a.held script r a.shelf_before mid) → a.shelf_after.readings ≡ with_reading mid.readings script failed → BothWereRead a b.accepted.read.book script failed
both-read words a mid script r failed b e = e ∙ ap (λ rs. with_reading rs script failed) b.reads

-- a script that couldn't be read or was refused
pub script-ended : (words : List (List ℕ)) (a : Around) (mid : Input) (script : List ℕ) (r : Read) (fault : RunFault) → HasReadBook words a.held script r a.shelf_before mid → IsScriptAnswer a.held script mid a.shelf_after (Err fault) → a.sink_after ≡ a.sink_before
    → IsAnswer words a None (Some fault)
script-ended words a mid script r Usage b h e = absurd h
script-ended words a mid script r BookUnread b h e = absurd h
script-ended words a mid script r (BookRefused why) b h e = absurd h
script-ended words a mid script r ScriptUnread b h e =
    (record { accepted = b.accepted; script = script; form = b.form; reads = both-read words a mid script r true b h.reads; rose = rose-later a.shelf_before.faults mid.faults a.shelf_after.faults b.counts h.rose; unwritten = e }, refl)
script-ended words a mid script r (ScriptRefused why) b h e =
    (record { read = record { accepted = b.accepted; script = script; form = b.form; bytes = h.bytes; front = h.front }; reads = both-read words a mid script r false b h.reads; cause = h.so.0; named = h.so.1; unwritten = e }, refl)
script-ended words a mid script r SinkFailed b h e = absurd h
script-ended words a mid script r OutOfMemory b h e = (record { form = (b.accepted.read.book, inl (script, b.form)); left = inl (ap (λ o. o.written) e) }, refl)

-- what was played
pub play-answered : (words : List (List ℕ)) (a : Around) (mid : Input) (script : List ℕ) (r : Read) (content : Content) (played : Played) → HasReadBook words a.held script r a.shelf_before mid → IsScriptAnswer a.held script mid a.shelf_after (Ok content)
    → IsPlayedSo r.notebook (map notice_line r.notices) content a.sink_before a.sink_after played → IsAnswer words a (outcome_of played).report (outcome_of played).fault
play-answered words a mid script r content (Done report) b h p =
    let accepted : ScriptIsAccepted words a.held = record { read = record { accepted = b.accepted; script = script; form = b.form; bytes = h.bytes; front = h.front }; content = content; is = h.so } in
    inl (record { accepted = accepted; reads = both-read words a mid script r false b h.reads; told = report; report = refl; pieces = p.pieces; played = rw (b.notices, b.notebook) p.played; written = p.written })
play-answered words a mid script r content (PlayCut report) b h p =
    let accepted : ScriptIsAccepted words a.held = record { read = record { accepted = b.accepted; script = script; form = b.form; bytes = h.bytes; front = h.front }; content = content; is = h.so } in
    inl (record { accepted = accepted; reads = both-read words a mid script r false b h.reads; rose = p.rose; told = report; report = refl; cut = rw (b.notices, b.notebook) p.cut })
play-answered words a mid script r content PlayMemory b h (inl same) = (record { form = (b.accepted.read.book, inl (script, b.form)); left = inl (ap (λ o. o.written) same) }, refl)
play-answered words a mid script r content PlayMemory b h (inr left) =
    let accepted : ScriptIsAccepted words a.held = record { read = record { accepted = b.accepted; script = script; form = b.form; bytes = h.bytes; front = h.front }; content = content; is = h.so } in (
      record {
        form = (b.accepted.read.book, inl (script, b.form));
        left = inr (record { accepted = accepted; reads = both-read words a mid script r false b h.reads; left = rw (b.notices, b.notebook) left });
      },
      refl,
    )

-- words in no form
pub words-ended : (words : List (List ℕ)) (a : Around) → ((book script : List ℕ) → ¬ IsPlay words book script) → ((book : List ℕ) → ¬ IsFormat words book) → a.shelf_after ≡ a.shelf_before → a.sink_after ≡ a.sink_before → IsAnswer words a None (Some Usage)
words-ended words a h k es ek = (record { no_play = h; no_format = k; reads = ap (λ shelf. shelf.readings) es; unwritten = ek }, refl)

-- a book to be formatted that couldn't be read or was refused
pub format-ended : (a : Around) (book : List ℕ) (fault : RunFault) → IsBookAnswer a.held book a.shelf_before a.shelf_after (Err fault) → a.sink_after ≡ a.sink_before → IsFormatAnswer book a None (Some fault)
format-ended a book Usage h e = absurd h
format-ended a book BookUnread h e = (record { book = book; form = inr refl; reads = h.reads; rose = h.rose; unwritten = e }, refl)
format-ended a book (BookRefused why) h e = (record { read = record { book = book; named = inr refl; bytes = h.bytes; front = h.front }; reads = h.reads; cause = h.so.0; named = h.so.1; unwritten = e }, refl)
format-ended a book ScriptUnread h e = absurd h
format-ended a book (ScriptRefused why) h e = absurd h
format-ended a book SinkFailed h e = absurd h
format-ended a book OutOfMemory h e = (ap (λ o. o.written) e, refl)

-- a book that was read, and whose tidy form was to be written
pub format-written : (a : Around) (book : List ℕ) (r : Read) (report : Option Report) (fault : Option RunFault) → IsBookAnswer a.held book a.shelf_before a.shelf_after (Ok r) → report ≡ None → IsWriting r.notebook a.sink_before a.sink_after fault
    → IsFormatAnswer book a report fault
format-written a book r report None h e x = record { accepted = book-accepted (format_words book) a.held book a.shelf_before a.shelf_after r (inr refl) h; form = refl; reads = h.reads; report = e; written = x }
format-written a book r report (Some Usage) h e x = absurd x
format-written a book r report (Some BookUnread) h e x = absurd x
format-written a book r report (Some (BookRefused why)) h e x = absurd x
format-written a book r report (Some ScriptUnread) h e x = absurd x
format-written a book r report (Some (ScriptRefused why)) h e x = absurd x
format-written a book r report (Some SinkFailed) h e x = record { accepted = book-accepted (format_words book) a.held book a.shelf_before a.shelf_after r (inr refl) h; form = refl; reads = h.reads; rose = x.0; report = e; written = x.1 }
format-written a book r report (Some OutOfMemory) h e x = (x, e)

-- what formatting answers, the program answers to the words
format-told : (a : Around) (book : List ℕ) (report : Option Report) (fault : Option RunFault) → IsFormatAnswer book a report fault → IsAnswer (format_words book) a report fault
format-told a book report None h = inr h
format-told a book report (Some Usage) h = absurd h
format-told a book report (Some BookUnread) h = h
format-told a book report (Some (BookRefused why)) h = h
format-told a book report (Some ScriptUnread) h = absurd h
format-told a book report (Some (ScriptRefused why)) h = absurd h
format-told a book report (Some SinkFailed) h = inr h
format-told a book report (Some OutOfMemory) h = (record { form = (book, inr refl); left = inl h.0 }, h.1)

pub format-answered : (words : List (List ℕ)) (a : Around) (book : List ℕ) (report : Option Report) (fault : Option RunFault) → IsFormat words book → IsFormatAnswer book a report fault → IsAnswer words a report fault
format-answered words a book report fault form h = subst (λ ws. IsAnswer ws a report fault) (sym form) (format-told a book report fault h)

-- words that name a book are in a form
no-form : (words : List (List ℕ)) (book : List ℕ) → NamesBook words book → ((book script : List ℕ) → ¬ IsPlay words book script) → ((book : List ℕ) → ¬ IsFormat words book) → ⊥
no-form words book (inl play) h k = h book play.0 play.1
no-form words book (inr form) h k = k book form

-- where nothing can be refused and no count rose, all was done
pub complete : (words : List (List ℕ)) (a : Around) (report : Option Report) (fault : Option RunFault) → IsAnswer words a report fault → IsComplete words a fault
complete words a report None h good shelf sink = inl refl
complete words a report (Some Usage) h good shelf sink = absurd (no-form words good.form.0 good.form.1 h.0.no_play h.0.no_format)
complete words a report (Some BookUnread) h good shelf sink = absurd (shelf h.0.rose)
complete words a report (Some (BookRefused why)) h good shelf sink =
    let r = h.0.read in
    absurd (refused-not-accepted r.bytes why h.0.cause h.0.named (good.books r.book r.bytes r.named r.front))
complete words a report (Some ScriptUnread) h good shelf sink = absurd (shelf h.0.rose)
complete words a report (Some (ScriptRefused why)) h good shelf sink =
    let r = h.0.read in
    let is = good.scripts r.accepted.read.book r.script r.bytes r.form r.front in
    absurd (cause-none r.bytes why h.0.cause h.0.named is.0 is.1)
complete words a report (Some SinkFailed) (inl x) good shelf sink = absurd (sink x.rose)
complete words a report (Some SinkFailed) (inr x) good shelf sink = absurd (sink x.rose)
complete words a report (Some OutOfMemory) h good shelf sink = inr refl

-- a list of two
pub two : {A B : Type 0} → (f : A → B) (d e : A) (xs : List A) → 2 ≤ length xs → length xs < 3 → map f xs ≡ f (get_or xs 0 d) ∷ f (get_or xs 1 e) ∷ []
two f d e [] a b = absurd (omega arith)
two f d e (x ∷ []) a b = absurd (omega arith)
two f d e (x ∷ y ∷ []) a b = refl
two f d e (x ∷ y ∷ z ∷ zs) a b = absurd (omega arith)

-- a list of three
pub three : {A B : Type 0} → (f : A → B) (d e k : A) (xs : List A) → 3 ≤ length xs → length xs < 4 → map f xs ≡ f (get_or xs 0 d) ∷ f (get_or xs 1 e) ∷ f (get_or xs 2 k) ∷ []
three f d e k [] a b = absurd (omega arith)
three f d e k (x ∷ []) a b = absurd (omega arith)
three f d e k (x ∷ y ∷ []) a b = absurd (omega arith)
three f d e k (x ∷ y ∷ z ∷ []) a b = refl
three f d e k (x ∷ y ∷ z ∷ v ∷ vs) a b = absurd (omega arith)

-- a fact that follows from another, where there is a result
pub on-ok : {T E : Type 0} (r : Result T E) {A B : Type 0} → (A → B) → OnOk r A → OnOk r B
on-ok (Ok v) f a = f a
on-ok (Err e) f a = tt

pub on-err-of : {T E : Type 0} (r : Result T E) {A : Type 0} {e : E} → IsErrOf r e → OnErr r A → A
on-err-of (Ok v) e a = absurd (cc e)
on-err-of (Err x) e a = a

pub on-ok-both : {T E : Type 0} (r : Result T E) {A B C : Type 0} → (A → B → C) → OnOk r A → OnOk r B → OnOk r C
on-ok-both (Ok v) f a b = f a b
on-ok-both (Err e) f a b = tt
