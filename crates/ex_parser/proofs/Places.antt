-- The place where a source can't be read, and what a source is read as.
use Rattle.std.proofs.Common.{◌≡◌, ◌⊎◌, inl, inr, ℕ, suc, ◌≤◌, Bool, true, false, List, [], ◌∷◌, ◌++◌, length, Option, Some, None, refl, sym, ap, ◌∙◌, subst, append_assoc, arith, length-append}
use Rattle.std.specs.Prelude.{if◌then◌else◌, ◌||◌}
use Rattle.ex_grammar.specs.declared.token.Token.{Token as CodeToken}
use Rattle.ex_grammar.specs.Tokens.{Token, Separator, Placed}
use Rattle.ex_grammar.specs.Lexing as L
use Rattle.ex_grammar.specs.Lexing.{Piece, Part, Cut, TextGoes, Stands}
use Rattle.ex_grammar.specs.Newlines.{given_by, before_by, gap_by, with_newline, with_semicolon, Gap, Nothing, Newlines, Semicolons, bare, separators, drops_after, drops_before, tokens_after, Lexes}
use Rattle.ex_grammar.specs.Trees.{Trees}
use Rattle.ex_grammar.specs.Grammar.{DeriveSource}
use Rattle.ex_grammar.specs.Reading.{BodyEndsBefore, IsFirstAt, IsSyntaxAt, at_begin, after_separator, NestsWithin}
use Rattle.ex_lexer.specs.Lexed.{HasTokens}
use Rattle.ex_parser.specs.declared.tree.Ast.{Ast}
use Rattle.ex_parser.specs.Follow as F
use Rattle.ex_parser.specs.Parsed.{HasTrees, IsReading}
use Rattle.ex_parser.specs.Stands.{AreAt}
use Rattle.ex_parser.proofs.Spots.{Single, IsBody, Beyond, Spot, no_double}

-- placed tokens round a separator
pub record Split (tokens : List Placed) (b r : List Token) : Type 0 where
  pub before : List Placed
  pub separator : Placed
  pub after : List Placed
  pub are : tokens ≡ before ++ separator ∷ after
  pub is_separator : separator.token ≡ Separator
  pub bare_before : bare before ≡ b
  pub bare_after : bare after ≡ r

split_bare : (tokens : List Placed) (b r : List Token) → bare tokens ≡ b ++ Separator ∷ r → Split tokens b r
split_bare [] [] r e = absurd (cc)
split_bare [] (t ∷ b) r e = absurd (cc)
split_bare (p ∷ ps) [] r e = record { before = []; separator = p; after = ps; are = refl; is_separator = (cc); bare_before = refl; bare_after = (cc) }
split_bare (p ∷ ps) (t ∷ b) r e =
    let k = split_bare ps b r (cc) in
    record { before = p ∷ k.before; separator = k.separator; after = k.after; are = ap (λ v. p ∷ v) k.are; is_separator = k.is_separator; bare_before = let h : p.token ≡ t = (cc) in ap (λ v. v ∷ bare k.before) h ∙ ap (λ v. t ∷ v) k.bare_before; bare_after = k.bare_after }

bare_length : (ts : List Placed) → length (bare ts) ≡ length ts
bare_length [] = refl
bare_length (t ∷ ts) = ap suc (bare_length ts)

bare_append : (xs : List Placed) (s : Placed) (ys : List Placed) → bare (xs ++ s ∷ ys) ≡ bare xs ++ s.token ∷ bare ys
bare_append [] s ys = refl
bare_append (x ∷ xs) s ys = ap (λ v. x.token ∷ v) (bare_append xs s ys)

-- ends of one list that are equally long are the same
same_end : (xs ys as' bs : List Placed) → xs ++ as' ≡ ys ++ bs → length as' ≡ length bs → as' ≡ bs
same_end [] [] as' bs e l = e
same_end [] (y ∷ ys) as' bs e l = absurd (omega (arith, ap length e, length-append ys bs, l))
same_end (x ∷ xs) [] as' bs e l = absurd (omega (arith, ap length e, length-append xs as', l))
same_end (x ∷ xs) (y ∷ ys) as' bs e l = same_end xs ys as' bs (cc) l

body_of : (tokens before after : List Placed) → BodyEndsBefore tokens before after → IsBody (bare tokens) (bare after)
body_of tokens before after b = record {
  before = bare before;
  trees = b.trees;
  derives = b.derives;
  split = ap bare b.tokens_are ∙ (bare_append before b.separator after ∙ ap (λ v. bare before ++ v ∷ bare after) b.is_separator);
}

-- the first token of what can't be read
first_at : (t : Placed) (ts : List Placed) → (t.token ≡ Separator → ⊥) → IsFirstAt (t ∷ ts) t.from
first_at t ts n = (n, refl)

module _ (tokens front : List Placed) (t : Placed) (ts : List Placed) (are : tokens ≡ front ++ t ∷ ts) (single : Single (bare tokens)) (spot : Spot (bare tokens) (bare (t ∷ ts))) (stops : (rest : List Token) → Beyond (bare (t ∷ ts)) rest → ⊥) where
  after_body : IsBody (bare tokens) (bare (t ∷ ts)) → IsSyntaxAt tokens t.from
  after_body b =
      let k = split_bare tokens b.before (bare (t ∷ ts)) b.split in
      let lengths : length k.after ≡ length (t ∷ ts) = sym (bare_length k.after) ∙ (ap length k.bare_after ∙ bare_length (t ∷ ts)) in
      let same : t ∷ ts ≡ k.after = same_end front (k.before ++ k.separator ∷ []) (t ∷ ts) k.after (sym are ∙ (k.are ∙ sym (append_assoc k.before (k.separator ∷ []) k.after))) (sym lengths) in
      let never : t.token ≡ Separator → ⊥ = λ e. no_double b.before (bare ts) (subst Single (b.split ∙ ap (λ v. b.before ++ Separator ∷ v ∷ bare ts) e) single) in
      after_separator {before = k.before} {after = k.after}
      (record { separator = k.separator; is_separator = k.is_separator; tokens_are = k.are; trees = b.trees; derives = subst (λ v. DeriveSource v b.trees) (sym k.bare_before) b.derives })
      (λ longer rest h. longest k.before k.separator k.after k.are lengths longer rest h (spot.latest (bare rest) (body_of tokens longer rest h)))
      (subst (λ v. IsFirstAt v t.from) same (first_at t ts never))
    where
      longest : (before : List Placed) (s : Placed) (after : List Placed) → tokens ≡ before ++ s ∷ after → length after ≡ length (t ∷ ts) → (longer rest : List Placed) → BodyEndsBefore tokens longer rest
          → ((length (bare (t ∷ ts)) ≤ length (bare rest)) × (IsBody (bare tokens) (bare (t ∷ ts)))) ⊎ Beyond (bare (t ∷ ts)) (bare rest) → length longer ≤ length before
      longest before s after e l longer rest h (inl q) =
          omega (arith, ap length e, ap length h.tokens_are, length-append before (s ∷ after), length-append longer (h.separator ∷ rest), q.0, bare_length rest, bare_length (t ∷ ts), l)
      longest before s after e l longer rest h (inr q) = absurd (stops (bare rest) q)

  at_first : bare (t ∷ ts) ≡ bare tokens → F.after_separator (bare tokens) ≡ bare tokens → IsSyntaxAt tokens t.from
  at_first e first =
      let lengths : length (t ∷ ts) ≡ length tokens = sym (bare_length (t ∷ ts)) ∙ (ap length e ∙ bare_length tokens) in
      let same : t ∷ ts ≡ tokens = same_end front [] (t ∷ ts) tokens (sym are) lengths in
      at_begin (λ before after h. none before after h (spot.latest (bare after) (body_of tokens before after h))) (subst (λ v. IsFirstAt v t.from) same (first_at t ts (λ q. never (t.token) (bare ts) q (subst (λ v. F.after_separator v ≡ v) (sym e) first))))
    where
      never : (u : Token) (us : List Token) → u ≡ Separator → F.after_separator (u ∷ us) ≡ u ∷ us → ⊥
      never u us q h = let g : us ≡ Separator ∷ us = subst (λ v. F.after_separator (v ∷ us) ≡ v ∷ us) q h in omega (arith, ap length g)

      none : (before after : List Placed) → BodyEndsBefore tokens before after → ((length (bare (t ∷ ts)) ≤ length (bare after)) × (IsBody (bare tokens) (bare (t ∷ ts)))) ⊎ Beyond (bare (t ∷ ts)) (bare after) → ⊥
      none before after h (inl q) = omega (arith, ap length q.1.split, length-append q.1.before (Separator ∷ bare (t ∷ ts)), ap length e)
      none before after h (inr q) = stops (bare after) q

  pub syntax_at : IsSyntaxAt tokens t.from
  syntax_at = by spot.begun
    where
      by : IsBody (bare tokens) (bare (t ∷ ts)) ⊎ ((bare (t ∷ ts) ≡ bare tokens) × (F.after_separator (bare tokens) ≡ bare tokens)) → IsSyntaxAt tokens t.from
      by (inl b) = after_body b
      by (inr e) = at_first e.0 e.1

-- the lexer never gives two separators together
abbrev IsPlain : Piece → Type 0
IsPlain (L.Whole Separator) = ⊥
IsPlain p = Unit {0}

abbrev ArePlain : List Part → Type 0
ArePlain [] = Unit {0}
ArePlain (p ∷ ps) = IsPlain p.piece × ArePlain ps

plain_append : (ps qs : List Part) → ArePlain ps → ArePlain qs → ArePlain (ps ++ qs)
plain_append [] qs h k = k
plain_append (p ∷ ps) qs h k = (h.0, plain_append ps qs h.1 k)

stands_plain : {text rest : List ℕ} {p : Piece} → Stands text p rest → IsPlain p
stands_plain L.space = tt
stands_plain L.tab = tt
stands_plain (L.comment a b) = tt
stands_plain (L.newline n) = tt
stands_plain L.semicolon = tt
stands_plain (L.integer a b c) = tt
stands_plain (L.key a b) = tt
stands_plain (L.word a b c) = tt
stands_plain (L.called a b) = tt
stands_plain (L.name a b c d) = tt
stands_plain (L.alias a) = tt
stands_plain (L.atom_name a) = tt
stands_plain (L.atom_alias a) = tt
stands_plain (L.atom_text a) = tt
stands_plain (L.sign a) = tt

mutual
  cut_plain : {at end : ℕ} {source rest : List ℕ} {ps : List Part} → Cut at source ps end rest → ArePlain ps
  cut_plain L.nothing = tt
  cut_plain (L.piece s c) = (stands_plain s, cut_plain c)
  cut_plain (L.text {ps = ps} {qs} s g c) = (tt, plain_append ps qs (text_plain g) (cut_plain c))

  text_plain : {at end : ℕ} {source rest : List ℕ} {ps : List Part} → TextGoes at source ps end rest → ArePlain ps
  text_plain L.ends = (tt, tt)
  text_plain (L.hole {ps = ps} {qs} c b s g) = (tt, plain_append ps _ (cut_plain c) (tt, text_plain g))

single_and : (t : Token) (ts : List Token) → IsPlain (L.Whole t) → Single ts → Single (t ∷ ts)
single_and Separator ts h s = absurd h
single_and t ts h s = s

single_separated : (t : Token) (ts : List Token) → IsPlain (L.Whole t) → Single (t ∷ ts) → Single (Separator ∷ t ∷ ts)
single_separated Separator ts h s = absurd h
single_separated t ts h s = s

single_gap : (drops : Bool) (from to : ℕ) (t : Placed) (ts : List Placed) → IsPlain (L.Whole t.token) → Single (bare (t ∷ ts)) → Single (bare ((if drops then [] else record { token = Separator; from = from; to = to } ∷ []) ++ t ∷ ts))
single_gap true from to t ts h s = s
single_gap false from to t ts h s = single_separated t.token (bare ts) h s

single_after_gap : (before : Option Token) (gap : Gap) (t : Placed) (ts : List Placed) → IsPlain (L.Whole t.token) → Single (bare (t ∷ ts)) → Single (bare (separators before gap (Some t.token) ++ t ∷ ts))
single_after_gap before Nothing t ts h s = s
single_after_gap before (Newlines from to) t ts h s = single_gap (drops_after before || drops_before (Some t.token)) from to t ts h s
single_after_gap before (Semicolons from to) t ts h s = single_separated t.token (bare ts) h s

single_last : (drops : Bool) (from to : ℕ) → Single (bare (if drops then [] else record { token = Separator; from = from; to = to } ∷ []))
single_last true from to = tt
single_last false from to = tt

single_end : (before : Option Token) (gap : Gap) → Single (bare (separators before gap None))
single_end before Nothing = tt
single_end before (Newlines from to) = single_last (drops_after before || drops_before None) from to
single_end before (Semicolons from to) = tt

single_part : (before : Option Token) (gap : Gap) (from to : ℕ) (ps : List Part) (q : Piece) → IsPlain q → ((b : Option Token) (g : Gap) → Single (bare (tokens_after b g ps))) → Single (bare (given_by before gap q from to ++ tokens_after (before_by before q) (gap_by gap q from to) ps))
single_part before gap from to ps L.Blank k more = more before gap
single_part before gap from to ps L.Comment k more = more before gap
single_part before gap from to ps L.Newline k more = more before (with_newline gap from to)
single_part before gap from to ps L.Semicolon k more = more before (with_semicolon gap from to)
single_part before gap from to ps (L.Whole t) k more =
    let rest : List Placed = tokens_after (Some t) Nothing ps in
    rw (append_assoc (separators before gap (Some t)) (record { token = t; from = from; to = to } ∷ []) rest)
    (single_after_gap before gap (record { token = t; from = from; to = to }) rest k (single_and t (bare rest) k (more (Some t) Nothing)))

single_parts : (before : Option Token) (gap : Gap) (ps : List Part) → ArePlain ps → Single (bare (tokens_after before gap ps))
single_parts before gap [] h = single_end before gap
single_parts before gap (p ∷ ps) h = single_part before gap p.from p.to ps p.piece h.0 (λ b g. single_parts b g ps h.1)

pub lexes_single : {source : List ℕ} {tokens : List Placed} → Lexes source tokens → Single (bare tokens)
lexes_single l = subst (λ v. Single (bare v)) (sym l.tokens_are) (single_parts None Nothing l.parts (cut_plain l.cut))

-- what a source is read as
pub reading_is : (source : List ℕ) (xs : List CodeToken) (h : HasTokens source xs) (tree : Ast) (trees : Trees) → NestsWithin (bare h.tokens) → HasTrees (bare h.tokens) trees → AreAt tree.nodes.items tree.roots.items trees → IsReading source tree
reading_is source xs h tree trees n t a = record {
  trees = trees;
  stand = a;
  reads = record { tokens = h.tokens; lexes = h.lexes; nests_within = n; derives = t.derives };
  only = λ others r. t.only others (subst (λ v. DeriveSource (bare v) others) (h.only r.tokens r.lexes) r.derives);
}
