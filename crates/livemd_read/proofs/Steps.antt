-- One line taken, in the definitions' terms.
use Rattle.std.proofs.Common.{◌≡◌, ℕ, zero, suc, Bool, true, false, ◌&&◌, cond, List, [], ◌∷◌, ◌++◌, Option, Some, None, length, refl, sym, subst, ap, ◌∙◌, append_assoc}
use Rattle.std.specs.Borrow.{Bor}
use Rattle.std.specs.Prelude.{IfOk, OnOk, Result, Ok, Err, unwrap_or}
use Rattle.std.specs.List.{flat_map}
use Rattle.std.specs.Option.{option_map}
use Rattle.std.specs.String.{string_bytes}
use Rattle.std.proofs.lemmas.List.{append-nil}
use Rattle.livemd_lines.specs.declared.fences.Fence.{Fence}
use Rattle.livemd_lines.specs.declared.kinds.LineKind.{LineKind}
use Rattle.livemd_lines.specs.declared.kinds.LineKind.TheVariants as line
use Rattle.blanks.specs.Blanks.{is_empty, drop_end, is_blank}
use Rattle.livemd_lines.specs.Lines.{joined}
use Rattle.livemd_lines.specs.Kinds.{Kind, Opens, Inside, Closes, Meta, Heading1, Heading2, Plain, Kinded}
use Rattle.livemd_lines.specs.Views.{kind_view}
use Rattle.livemd_format.specs.Items.{Cut, Item, Markdown, Misplaced, Name, Saved, after_code, at_name, code_at, content, content_lines, cut, cut_by, is_closing_kind, is_code, is_force, is_inside, items, markdown_at, markdown_of, may_stand, one_line, one_more, output_at, saved_at, saved_by, stretch, stretch_lines}
use Rattle.livemd_read.specs.declared.done.Done.{Done}
use Rattle.livemd_read.specs.declared.open.Content.{Content}
use Rattle.livemd_read.specs.declared.open.Content.TheVariants.{Code, Output}
use Rattle.livemd_read.specs.declared.open.Open.{Open}
use Rattle.livemd_read.specs.declared.open.Open.TheVariants as reader
use Rattle.livemd_read.specs.declared.open.Passage.{Passage}
use Rattle.livemd_read.specs.Resume.{BeginsText, Cuts, IsLonger, IsPassageOf, Takes, added_by, behind_feed, fenced_item, longer, resume, source_after, source_with}
use Rattle.livemd_read.specs.Views.{IsDone, cut_of}

-- what is still to come, by the item that is cut
abbrev with_cut : List Item → ℕ → List Kinded → Cut → List Item
with_cut done number rest c = items (done ++ c.item ∷ []) number c.more rest

-- joined lines are the first one and each other behind a line feed
joined-cons : (l : List ℕ) (ls : List (List ℕ)) → joined (l ∷ ls) ≡ l ++ flat_map behind_feed ls
joined-cons l [] = sym (append-nil l)
joined-cons l (m ∷ ls) = ap (λ w. l ++ 10 ∷ w) (joined-cons m ls)

-- with nothing before them, lines add what they are
added_by-nothing : (ls : List (List ℕ)) → added_by [] ls ≡ flat_map behind_feed ls
added_by-nothing [] = refl
added_by-nothing (l ∷ ls) = refl

drop_end-text : (l : List ℕ) (ls : List (List ℕ)) → is_blank l ≡ false → drop_end is_blank (l ∷ ls) ≡ l ∷ drop_end is_blank ls
drop_end-text l ls e = rw e refl

-- ---- Markdown text begins

pub begins_text : (l : Kinded) (p : Passage) → is_blank l.text ≡ false → IsPassageOf l.text p → BeginsText l (reader.Text p false)
begins_text l p e h = λ done number rest.
    let more : List (List ℕ) = stretch false rest in
    let text : joined (drop_end is_blank (l.text ∷ more)) ≡ l.text ++ added_by [] (drop_end is_blank more) =
    ap joined (drop_end-text l.text more e) ∙ (joined-cons l.text (drop_end is_blank more) ∙ ap (λ w. l.text ++ w) (sym (added_by-nothing (drop_end is_blank more)))) in
    let both : longer p more ≡ l.text ++ added_by [] (drop_end is_blank more) = rw (h.source, h.blanks) refl in
    ap (λ t. items (done ++ Markdown t ∷ []) number (stretch_lines false rest) rest) (both ∙ sym text)

-- an item that is cut is cut by what comes to the same
pub same_cut : (d e : Done) (new : Open) (number : ℕ) (f g : List Kinded → Cut) → ((rest : List Kinded) → f rest ≡ g rest) → Cuts d e new number f → Cuts d e new number g
same_cut d e new number f g s h = record { done = h.done; step = λ rest. h.step rest ∙ ap (with_cut (cut_of d) (suc number) rest) (s rest) }

-- an item of one line, as the code puts it, is the one that is cut
pub line_cuts : {E : Type 0} (r : Result Open E) (d e : Done) (i : Item) (g : ℕ → List Kinded → Cut) → ((number : ℕ) (rest : List Kinded) → one_line i ≡ g number rest) → IfOk r (λ after. (number : ℕ) → Cuts d e after number (λ _. one_line i)) → IfOk r (λ after. (number : ℕ) → Cuts d e after number (g number))
line_cuts (Ok o) d e i g s h = λ number. same_cut d e o number (λ _. one_line i) (g number) (s number) (h number)
line_cuts (Err x) d e i g s h = tt

pub line_cut : {E : Type 0} (r : Result Open E) (d e : Done) (i : Item) (number : ℕ) (g : List Kinded → Cut) → ((rest : List Kinded) → one_line i ≡ g rest) → IfOk r (λ after. (m : ℕ) → Cuts d e after m (λ _. one_line i)) → IfOk r (λ after. Cuts d e after number g)
line_cut (Ok o) d e i number g s h = same_cut d e o number (λ _. one_line i) g s (h number)
line_cut (Err x) d e i number g s h = tt

pub text_cut : (d : Done) (new : Open) (number : ℕ) (l : Kinded) (f : List Kinded → Cut) → IsDone d → BeginsText l new → ((rest : List Kinded) → f rest ≡ markdown_at l rest) → Cuts d d new number f
text_cut d new number l f h b s = record { done = h; step = λ rest. b (cut_of d) (suc number) rest ∙ ap (with_cut (cut_of d) (suc number) rest) (sym (s rest)) }

-- a fence outside text is code, or text begins with it
pub code_begins : (d : Done) (number : ℕ) (fence : Fence) (info : List ℕ) (l : Kinded) → is_code fence info ≡ true → IsDone d → Cuts d d (reader.Fence Code None) number (cut_by (Opens fence info) (cut_of d) number l)
code_begins d number fence info l e h = record {
  done = h;
  step = λ rest. ap (λ (b : Bool). with_cut (cut_of d) (suc number) rest (cond b (code_at (cut_of d) rest) (markdown_at l rest))) (sym e);
}

pub other_fence : (done : List Item) (number : ℕ) (fence : Fence) (info : List ℕ) (l : Kinded) → is_code fence info ≡ false → (rest : List Kinded) → cut_by (Opens fence info) done number l rest ≡ markdown_at l rest
other_fence done number fence info l e rest = ap (λ (b : Bool). cond b (code_at done rest) (markdown_at l rest)) e

-- a heading 1
pub first_heading : (done : List Item) (number : ℕ) (name : List ℕ) (l : Kinded) → at_name done ≡ true → (rest : List Kinded) → one_line (Name name) ≡ cut_by (Heading1 name) done number l rest
first_heading done number name l e rest = ap (λ (b : Bool). cond b (one_line (Name name)) (markdown_at l rest)) (sym e)

pub later_heading : (done : List Item) (number : ℕ) (name : List ℕ) (l : Kinded) → at_name done ≡ false → (rest : List Kinded) → cut_by (Heading1 name) done number l rest ≡ markdown_at l rest
later_heading done number name l e rest = ap (λ (b : Bool). cond b (one_line (Name name)) (markdown_at l rest)) e

-- an output line
pub output_waits : (d : Done) (number : ℕ) → after_code (cut_of d) ≡ true → IsDone d → Cuts d d (reader.OutputLine number) number (output_at (cut_of d) number)
output_waits d number e h = record {
  done = h;
  step = λ rest. ap (λ (b : Bool). with_cut (cut_of d) (suc number) rest (cond b (saved_at number rest) (one_line (Misplaced number)))) (sym e);
}

pub output_alone : (done : List Item) (number : ℕ) → after_code done ≡ false → (rest : List Kinded) → one_line (Misplaced number) ≡ output_at done number rest
output_alone done number e rest = ap (λ (b : Bool). cond b (saved_at number rest) (one_line (Misplaced number))) (sym e)

-- a kind, by how the code sees it
pub cut_kind : (done : List Item) (number : ℕ) (l : Kinded) (k : Kind) → l.kind ≡ k → (rest : List Kinded) → cut_by k done number l rest ≡ cut done number l rest
cut_kind done number l k e rest = ap (λ (m : Kind). cut_by m done number l rest) (sym e)

pub fence_if : {E : Type 0} (r : Result Open E) (d : Done) (number : ℕ) (l : Kinded) (k : Kind) → l.kind ≡ k → IsDone d → IfOk r (λ after. (done : Done) (m : ℕ) → IsDone done → Cuts done done after m (cut_by k (cut_of done) m l)) → IfOk r (λ after. Cuts d d after number (cut (cut_of d) number l))
fence_if (Ok o) d number l k e i h = same_cut d d o number (cut_by k (cut_of d) number l) (cut (cut_of d) number l) (cut_kind (cut_of d) number l k e) (h d number i)
fence_if (Err x) d number l k e i h = tt

pub heading_if : {E : Type 0} (r : Result Open E) (d e : Done) (number : ℕ) (l : Kinded) (k : Kind) → l.kind ≡ k → IfOk r (λ after. (m : ℕ) → Cuts d e after m (cut_by k (cut_of d) m l)) → IfOk r (λ after. Cuts d e after number (cut (cut_of d) number l))
heading_if (Ok o) d e number l k s h = same_cut d e o number (cut_by k (cut_of d) number l) (cut (cut_of d) number l) (cut_kind (cut_of d) number l k s) (h number)
heading_if (Err x) d e number l k s h = tt

-- ---- a line before which nothing is open

pub takes_blank : (d : Done) (number : ℕ) (l : Kinded) → is_blank l.text ≡ true → IsDone d → Takes d reader.Nothing d reader.Nothing number l
takes_blank d number l e h = record {
  done = h;
  step = λ rest. ap (λ (b : Bool). cond b (items (cut_of d) (suc number) zero rest) (with_cut (cut_of d) (suc number) rest (cut (cut_of d) number l rest))) (sym e);
}

pub takes_item : (d e : Done) (new : Open) (number : ℕ) (l : Kinded) → is_blank l.text ≡ false → Cuts d e new number (cut (cut_of d) number l) → Takes d reader.Nothing e new number l
takes_item d e new number l b h = record {
  done = h.done;
  step = λ rest. h.step rest ∙ ap (λ (t : Bool). cond t (items (cut_of d) (suc number) zero rest) (with_cut (cut_of d) (suc number) rest (cut (cut_of d) number l rest))) (sym b);
}

-- ---- a line behind a forcing line

abbrev forced_texts : Bool → Kinded → List Kinded → List (List ℕ)
forced_texts blank l rest = cond blank (stretch true rest) (l.text ∷ stretch false rest)

abbrev forced_lines : Bool → List Kinded → ℕ
forced_lines blank rest = cond blank (suc (stretch_lines true rest)) (suc (stretch_lines false rest))

pub forced_blank : (d : Done) (number : ℕ) (l : Kinded) → is_blank l.text ≡ true → IsDone d → Takes d reader.Forced d reader.Forced number l
forced_blank d number l e h = record {
  done = h;
  step = λ rest. ap (λ (b : Bool). items (cut_of d ++ markdown_of (forced_texts b l rest) ∷ []) number (forced_lines b rest) (l ∷ rest)) (sym e);
}

pub forced_text : (d : Done) (new : Open) (number : ℕ) (l : Kinded) → is_blank l.text ≡ false → BeginsText l new → IsDone d → Takes d reader.Forced d new number l
forced_text d new number l e b h = record {
  done = h;
  step = λ rest.
      b (cut_of d) (suc number) rest
      ∙ ap (λ (t : Bool). items (cut_of d ++ markdown_of (forced_texts t l rest) ∷ []) number (forced_lines t rest) (l ∷ rest)) (sym e);
}

-- ---- Markdown text goes on

added_by-blank : (blanks l : List ℕ) (ls : List (List ℕ)) → added_by blanks (cond (is_empty ls) [] (l ∷ ls)) ≡ added_by (blanks ++ 10 ∷ l) ls
added_by-blank blanks l [] = refl
added_by-blank blanks l (m ∷ ls) = sym (append_assoc blanks (10 ∷ l) (flat_map behind_feed (m ∷ ls)))

added_by-text : (blanks l : List ℕ) (ls : List (List ℕ)) → added_by blanks (l ∷ ls) ≡ (blanks ++ 10 ∷ l) ++ added_by [] ls
added_by-text blanks l ls = sym (append_assoc blanks (10 ∷ l) (flat_map behind_feed ls)) ∙ ap (λ w. (blanks ++ 10 ∷ l) ++ w) (sym (added_by-nothing ls))

more_text : (t : Bool) (source blanks l : List ℕ) (ls : List (List ℕ)) → cond t source (source ++ (blanks ++ 10 ∷ l)) ++ added_by (cond t (blanks ++ 10 ∷ l) []) ls ≡ source ++ added_by blanks (cond (t && is_empty ls) [] (l ∷ ls))
more_text true source blanks l ls = ap (λ w. source ++ w) (sym (added_by-blank blanks l ls))
more_text false source blanks l ls = append_assoc source (blanks ++ 10 ∷ l) (added_by [] ls) ∙ ap (λ w. source ++ w) (sym (added_by-text blanks l ls))

longer-more : (p q : Passage) (l : List ℕ) (ls : List (List ℕ)) → IsLonger p l q → longer q ls ≡ longer p (l ∷ ls)
longer-more p q l ls h =
    ap (λ w. w ++ added_by (string_bytes q.blanks) (drop_end is_blank ls)) h.source
    ∙ (ap (λ w. cond (is_blank l) (string_bytes p.source) (string_bytes p.source ++ (string_bytes p.blanks ++ 10 ∷ l)) ++ added_by w (drop_end is_blank ls)) h.blanks
    ∙ more_text (is_blank l) (string_bytes p.source) (string_bytes p.blanks) l (drop_end is_blank ls))

-- what the stretch is, by whether its first line forces, and whether it may stand
abbrev texts_by : Bool → Bool → Kinded → List Kinded → List (List ℕ)
texts_by forces stands l rest = cond forces (stretch true rest) (cond stands (l.text ∷ stretch false rest) [])

abbrev lines_by : Bool → Bool → List Kinded → ℕ
lines_by forces stands rest = cond forces (suc (stretch_lines true rest)) (cond stands (suc (stretch_lines false rest)) zero)

abbrev text_by : Done → Passage → ℕ → Kinded → List Kinded → Bool → Bool → List Item
text_by d p number l rest forces stands = items (cut_of d ++ Markdown (longer p (texts_by forces stands l rest)) ∷ []) number (lines_by forces stands rest) (l ∷ rest)

text-is : (d : Done) (p : Passage) (number : ℕ) (l : Kinded) (rest : List Kinded) (forces stands : Bool) → is_force l.kind ≡ forces → may_stand l.kind ≡ stands → text_by d p number l rest forces stands ≡ resume (cut_of d) (reader.Text p false) number (l ∷ rest)
text-is d p number l rest forces stands f s = ap (λ (b : Bool). text_by d p number l rest b stands) (sym f) ∙ ap (λ (b : Bool). text_by d p number l rest (is_force l.kind) b) (sym s)

pub text_forces : (d : Done) (p : Passage) (number : ℕ) (l : Kinded) → is_force l.kind ≡ true → IsDone d → Takes d (reader.Text p false) d (reader.Text p true) number l
text_forces d p number l f h = record { done = h; step = λ rest. text-is d p number l rest true (may_stand l.kind) f refl }

pub text_goes_on : (d : Done) (p q : Passage) (number : ℕ) (l : Kinded) → is_force l.kind ≡ false → may_stand l.kind ≡ true → IsLonger p l.text q → IsDone d → Takes d (reader.Text p false) d (reader.Text q false) number l
text_goes_on d p q number l f s m h = record {
  done = h;
  step = λ rest.
      ap (λ t. items (cut_of d ++ Markdown t ∷ []) (suc number) (stretch_lines false rest) rest) (longer-more p q l.text (stretch false rest) m)
      ∙ text-is d p number l rest false true f s;
}

pub text_ends : (d e g : Done) (p : Passage) (new : Open) (number : ℕ) (l : Kinded) → is_force l.kind ≡ false → may_stand l.kind ≡ false → cut_of e ≡ cut_of d ++ Markdown (string_bytes p.source) ∷ [] → Takes e reader.Nothing g new number l → Takes d (reader.Text p false) g new number l
text_ends d e g p new number l f s m h = record {
  done = h.done;
  step = λ rest.
      h.step rest
      ∙ (ap (λ is. items is number zero (l ∷ rest)) m
      ∙ (ap (λ t. items (cut_of d ++ Markdown t ∷ []) number zero (l ∷ rest)) (sym (append-nil (string_bytes p.source)))
      ∙ text-is d p number l rest false false f s));
}

-- ---- a fence goes on

source_more : (o : Option (List ℕ)) (l : List ℕ) (ls : List (List ℕ)) → source_after o l ++ flat_map behind_feed ls ≡ source_with o (l ∷ ls)
source_more None l ls = sym (joined-cons l ls)
source_more (Some source) l ls = append_assoc source (10 ∷ l) (flat_map behind_feed ls)

pub source_whole : (o : Option (List ℕ)) → unwrap_or o [] ≡ source_with o []
source_whole None = refl
source_whole (Some source) = sym (append-nil source)

abbrev content_by : Bool → Kinded → List Kinded → List (List ℕ)
content_by inside l rest = cond inside (l.text ∷ content rest) []

abbrev content_lines_by : Bool → Bool → List Kinded → ℕ
content_lines_by inside closes rest = cond inside (suc (content_lines rest)) (cond closes (suc zero) zero)

abbrev fence_by : Done → Content → Option (List ℕ) → ℕ → Kinded → List Kinded → Bool → Bool → List Item
fence_by d what o number l rest inside closes = items (cut_of d ++ fenced_item (cut_of d) what (source_with o (content_by inside l rest)) ∷ []) number (content_lines_by inside closes rest) (l ∷ rest)

fence-is : (d : Done) (what : Content) (o : Option (List ℕ)) (number : ℕ) (l : Kinded) (rest : List Kinded) (inside closes : Bool) → is_inside l.kind ≡ inside → is_closing_kind l.kind ≡ closes → fence_by d what o number l rest inside closes ≡ fence_by d what o number l rest (is_inside l.kind) (is_closing_kind l.kind)
fence-is d what o number l rest inside closes i c = ap (λ (b : Bool). fence_by d what o number l rest b closes) (sym i) ∙ ap (λ (b : Bool). fence_by d what o number l rest (is_inside l.kind) b) (sym c)

pub fence_goes_on : (d : Done) (what : Content) (o : _) (s : _) (number : ℕ) (l : Kinded) → is_inside l.kind ≡ true → string_bytes s ≡ source_after (option_map string_bytes o) l.text → IsDone d → Takes d (reader.Fence what o) d (reader.Fence what (Some s)) number l
fence_goes_on d what o s number l i m h = record {
  done = h;
  step = λ rest.
      ap (λ t. items (cut_of d ++ fenced_item (cut_of d) what t ∷ []) (suc number) (content_lines rest) rest) (ap (λ w. w ++ flat_map behind_feed (content rest)) m ∙ source_more (option_map string_bytes o) l.text (content rest))
      ∙ fence-is d what (option_map string_bytes o) number l rest true (is_closing_kind l.kind) i refl;
}

-- what is open behind the fence, where the line closes it, and where it doesn't
fence_stops : (d e : Done) (what : Content) (o : _) (number : ℕ) (l : Kinded) (closes : Bool) → is_inside l.kind ≡ false → is_closing_kind l.kind ≡ closes → cut_of e ≡ cut_of d ++ fenced_item (cut_of d) what (unwrap_or (option_map string_bytes o) []) ∷ [] → (rest : List Kinded)
    → items (cut_of e) number (cond closes (suc zero) zero) (l ∷ rest) ≡ resume (cut_of d) (reader.Fence what o) number (l ∷ rest)
fence_stops d e what o number l closes i c m rest =
    ap (λ is. items is number (cond closes (suc zero) zero) (l ∷ rest)) m
    ∙ (ap (λ t. items (cut_of d ++ fenced_item (cut_of d) what t ∷ []) number (cond closes (suc zero) zero) (l ∷ rest)) (source_whole (option_map string_bytes o))
    ∙ fence-is d what (option_map string_bytes o) number l rest false closes i c)

pub fence_closes : (d e : Done) (what : Content) (o : _) (number : ℕ) (l : Kinded) → is_inside l.kind ≡ false → is_closing_kind l.kind ≡ true → cut_of e ≡ cut_of d ++ fenced_item (cut_of d) what (unwrap_or (option_map string_bytes o) []) ∷ [] → IsDone e → Takes d (reader.Fence what o) e reader.Nothing number l
fence_closes d e what o number l i c m h = record { done = h; step = λ rest. fence_stops d e what o number l true i c m rest }

pub fence_ends : (d e g : Done) (what : Content) (o : _) (new : Open) (number : ℕ) (l : Kinded) → is_inside l.kind ≡ false → is_closing_kind l.kind ≡ false → cut_of e ≡ cut_of d ++ fenced_item (cut_of d) what (unwrap_or (option_map string_bytes o) []) ∷ [] → Takes e reader.Nothing g new number l → Takes d (reader.Fence what o) g new number l
fence_ends d e g what o new number l i c m h = record { done = h.done; step = λ rest. h.step rest ∙ fence_stops d e what o number l false i c m rest }

-- ---- an output line waits

abbrev output_by : Done → ℕ → ℕ → Kinded → List Kinded → Bool → List Item
output_by d output number l rest blank = with_cut (cut_of d) number (l ∷ rest) (cond blank (one_more (saved_at output rest)) (saved_by output l.kind rest))

pub output_blank : (d : Done) (output number : ℕ) (l : Kinded) → is_blank l.text ≡ true → IsDone d → Takes d (reader.OutputLine output) d (reader.OutputLine output) number l
output_blank d output number l e h = record { done = h; step = λ rest. ap (output_by d output number l rest) (sym e) }

pub output_fence : (d : Done) (output number : ℕ) (l : Kinded) (fence : Fence) (info : Bor (List ℕ)) → is_blank l.text ≡ false → l.kind ≡ Opens fence info.now → IsDone d → Takes d (reader.OutputLine output) d (reader.Fence (Output info) None) number l
output_fence d output number l fence info e k h = record {
  done = h;
  step = λ rest. ap (λ (m : Kind). with_cut (cut_of d) number (l ∷ rest) (saved_by output m rest)) (sym k) ∙ ap (output_by d output number l rest) (sym e);
}

pub output_ends : (d e g : Done) (output : ℕ) (new : Open) (number : ℕ) (l : Kinded) → is_blank l.text ≡ false → ((rest : List Kinded) → saved_by output l.kind rest ≡ one_line (Misplaced output)) → cut_of e ≡ cut_of d ++ Misplaced output ∷ [] → Takes e reader.Nothing g new number l → Takes d (reader.OutputLine output) g new number l
output_ends d e g output new number l b k m h = record {
  done = h.done;
  step = λ rest.
      h.step rest
      ∙ (ap (λ is. items is number zero (l ∷ rest)) m
      ∙ (ap (with_cut (cut_of d) number (l ∷ rest)) (sym (k rest)) ∙ ap (output_by d output number l rest) (sym b)));
}

-- a kind that opens no fence saves nothing
pub saves_nothing : (output : ℕ) (k : LineKind) → ((fence : Fence) (info : Bor (List ℕ)) → ¬ (k ≡ line.Opens fence info)) → (rest : List Kinded) → saved_by output (kind_view k) rest ≡ one_line (Misplaced output)
saves_nothing output (line.Opens fence info) h rest = absurd (h fence info refl)
saves_nothing output line.Inside h rest = refl
saves_nothing output line.Closes h rest = refl
saves_nothing output (line.Metadata meaning) h rest = refl
saves_nothing output (line.Heading1 name) h rest = refl
saves_nothing output (line.Heading2 name) h rest = refl
saves_nothing output line.Text h rest = refl

-- ---- any line, and none

pub takes_if : {E : Type 0} (r : Result Open E) (d : Done) (p old : Open) (number : ℕ) (l : Kinded) → p ≡ old → IsDone d → IfOk r (λ after. (done : Done) (m : ℕ) → IsDone done → Takes done old done after m l) → IfOk r (λ after. Takes d p d after number l)
takes_if (Ok o) d p old number l s i h = subst (λ (q : Open). Takes d q d o number l) (sym s) (h d number i)
takes_if (Err x) d p old number l s i h = tt

pub fence_last : {E : Type 0} (r : Result (Unit {0}) E) (d e : Done) (what : Content) (o : _) (p : Open) → p ≡ reader.Fence what o → OnOk r (cut_of e ≡ cut_of d ++ fenced_item (cut_of d) what (unwrap_or (option_map string_bytes o) []) ∷ []) → OnOk r ((number : ℕ) → cut_of e ≡ resume (cut_of d) p number [])
fence_last (Ok u) d e what o p s h = λ number.
    h
    ∙ (ap (λ t. cut_of d ++ fenced_item (cut_of d) what t ∷ []) (source_whole (option_map string_bytes o))
    ∙ ap (λ (q : Open). resume (cut_of d) q number []) (sym s))
fence_last (Err x) d e what o p s h = tt
