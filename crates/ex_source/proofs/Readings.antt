-- What the tokens, their nesting and their trees say of the source.
use Rattle.std.specs.Bool.{MatchBool}
use Rattle.std.proofs.Common.{Bool, true, false, MatchOption, ◌≡◌, ℕ, List, Option, Some, None, subst, sym, ap, ◌∙◌}
use Rattle.ex_model.specs.Tree.{Tree}
use Rattle.ex_model.specs.Grammar.{Top}
use Rattle.ex_model.specs.Reads.{Reads, NestsWithin}
use Rattle.ex_source.specs.declared.lexeme.Lexeme.{Lexeme}
use Rattle.ex_model.specs.Newlines.{tokens_of}
use Rattle.ex_source.specs.Settled.{HasTokens, HasNoTokens}
use Rattle.ex_source.specs.Shown.{HasTrees}
use Rattle.ex_source.specs.Reading.{IsReading}
use Rattle.ex_source.proofs.Pieces.{pieces_one}
use Rattle.ex_source.proofs.Bodies.{top_one}

pub unread_tokens : (source : List ℕ) → HasNoTokens source → (trees : List Tree) → Reads source trees → ⊥
unread_tokens source h trees r = h r.tokens r.lexes

pub not_within : (source : List ℕ) (xs : List Lexeme) (h : HasTokens source xs) (b : Bool) → MatchBool b (NestsWithin h.tokens) (NestsWithin h.tokens → ⊥) → b ≡ false → (trees : List Tree) → Reads source trees → ⊥
not_within source xs h true m e trees r = cc
not_within source xs h false m e trees r = m (subst NestsWithin (h.only r.tokens r.lexes) r.nests_within)

pub read_or_not : (source : List ℕ) (xs : List Lexeme) (h : HasTokens source xs) (b : Bool) → MatchBool b (NestsWithin h.tokens) (NestsWithin h.tokens → ⊥) → b ≡ true
    → (r : Option (List Tree)) → MatchOption r ((trees : List Tree) → Top h.tokens trees → ⊥) (HasTrees h.tokens) → MatchOption r ((trees : List Tree) → Reads source trees → ⊥) (IsReading source)
read_or_not source xs h false m e r k = cc
read_or_not source xs h true m e None k = λ trees r. k trees (subst (λ v. Top v trees) (h.only r.tokens r.lexes) r.derives)
read_or_not source xs h true m e (Some trees) k = record {
  reads = record { tokens = h.tokens; lexes = h.lexes; nests_within = m; derives = k.top };
  only = λ others r. k.only others (subst (λ v. Top v others) (h.only r.tokens r.lexes) r.derives);
}

-- a source reads as one list of expressions at most
pub one_reading : (source : List ℕ) (trees others : List Tree) → Reads source trees → Reads source others → trees ≡ others
one_reading source trees others r q =
    let same : r.tokens ≡ q.tokens = r.lexes.tokens_are ∙ (ap tokens_of (pieces_one r.lexes.cut q.lexes.cut) ∙ sym q.lexes.tokens_are) in
    top_one q.tokens trees others (subst (λ v. Top v trees) same r.derives) q.derives
