-- What the code found is all that a source has.
use Rattle.std.proofs.Common.{ℕ, List, [], Bool, true, false, refl, ap, ◌∙◌, subst}
use Rattle.std.proofs.lemmas.List.{append-nil}
use Rattle.std.specs.Str.{IsUtf8}
use Rattle.ex_grammar.specs.declared.token.LexErrorKind.{LexErrorKind}
use Rattle.ex_grammar.specs.declared.token.Token.{Token as CodeToken}
use Rattle.ex_grammar.specs.Tokens.{Placed}
use Rattle.ex_grammar.specs.Lexing.{Part}
use Rattle.ex_grammar.specs.Newlines.{Lexes, tokens_of}
use Rattle.ex_grammar.specs.Refusals.{IsRefused}
use Rattle.ex_grammar.specs.Coded.{ArePlaced}
use Rattle.ex_lexer.specs.Machine.{Answer, Cuts, Fault, Gives, over}
use Rattle.ex_lexer.specs.Lexed.{HasTokens, IsBad}
use Rattle.ex_lexer.proofs.Bools.{not_both}
use Rattle.ex_lexer.proofs.Cuts.{cut_gives}
use Rattle.ex_lexer.proofs.Refusing.{refused_gives, cut_utf8}
use Rattle.ex_lexer.proofs.Meaning.{gives_means}
use Rattle.ex_lexer.proofs.Laws.{gives_one}

abbrev is_cuts : Answer → Bool
is_cuts (Cuts ps) = true
is_cuts (Fault at k) = false

abbrev parts_or : List Part → Answer → List Part
parts_or ps (Cuts qs) = qs
parts_or ps (Fault at k) = ps

abbrev place_or : ℕ → Answer → ℕ
place_or n (Cuts qs) = n
place_or n (Fault at k) = at

abbrev kind_or : LexErrorKind → Answer → LexErrorKind
kind_or k (Cuts qs) = k
kind_or k (Fault at j) = j

-- what has tokens, and what is refused, as the machine has it
lexes_gives : (s : List ℕ) (ts : List Placed) (l : Lexes s ts) → Gives [] 0 s (Cuts l.parts)
lexes_gives s ts l = subst (λ v. Gives [] 0 s (Cuts v)) (append-nil l.parts) (cut_gives l.cut [] [] refl (Cuts []) over)

refused_gives_all : (s : List ℕ) (at : ℕ) (k : LexErrorKind) → IsUtf8 s → IsRefused s at k → Gives [] 0 s (Fault at k)
refused_gives_all s at k u r = cut_gives r.cut [] [] refl (Fault at k) (refused_gives r.refused [] (cut_utf8 r.cut u))

pub has_tokens : (s : List ℕ) (xs : List CodeToken) (ps : List Part) → IsUtf8 s → Gives [] 0 s (Cuts ps) → ArePlaced xs (tokens_of ps) → HasTokens s xs
has_tokens s xs ps u g h =
    let c = gives_means g u in
    record {
      tokens = tokens_of ps;
      shown = h;
      lexes = record { parts = ps; end = c.0; cut = c.1; tokens_are = refl };
      only = λ ts l. l.tokens_are ∙ ap tokens_of (ap (parts_or l.parts) (gives_one (lexes_gives s ts l) g));
    }

pub is_bad : (s : List ℕ) (at : ℕ) (k : LexErrorKind) → IsUtf8 s → Gives [] 0 s (Fault at k) → IsBad s at k
is_bad s at k u g =
    let r = gives_means g u in
    record {
      refused = record { parts = r.0; upto = r.1; rest = r.2; cut = r.3; refused = r.4 };
      none = λ ts l. not_both true refl (ap is_cuts (gives_one (lexes_gives s ts l) g));
      only = λ at' k' q. let e = gives_one (refused_gives_all s at' k' u q) g in (ap (place_or at') e, ap (kind_or k') e);
    }
