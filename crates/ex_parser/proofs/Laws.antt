-- The machine has one end, and comes to it.
use Rattle.std.proofs.Common.{◌≡◌, ◌<◌, List, [], ◌∷◌, ◌++◌, length, refl, sym, ap, ◌∙◌, arith, length-append}
use Rattle.ex_grammar.specs.Tokens.{Token, Separator}
use Rattle.ex_grammar.specs.Trees.{Tree}
use Rattle.ex_grammar.specs.Grammar.{End, Derives}
use Rattle.ex_parser.specs.Machine.{State, Want, Have, Done, Stuck, Reaches, here, there}
use Rattle.ex_parser.proofs.Fronts.{Begins, derives_begin, Calm, calm_separator}
use Rattle.ex_parser.proofs.Levels.{calm_stops, quiet_ends}
use Rattle.ex_parser.proofs.Reach.{and_on, on, tree_goes}
use Rattle.ex_parser.proofs.Complete.{complete}
use Rattle.ex_parser.proofs.SoundBlocks.{front_of}

-- the machine is at its end
abbrev pub IsFinal : State → Type 0
IsFinal (Want s ts) = ⊥
IsFinal (Have s v ts) = ⊥
IsFinal (Done t ts) = Unit {0}
IsFinal Stuck = Unit {0}

stays : (a b : State) → IsFinal a → Reaches a b → a ≡ b
stays a b f here = refl
stays (Done t ts) b f (there p) = stays (Done t ts) b f p
stays Stuck b f (there p) = stays Stuck b f p
stays (Want s ts) b f (there p) = absurd f
stays (Have s v ts) b f (there p) = absurd f

pub one_end : {a b c : State} → Reaches a b → IsFinal b → Reaches a c → IsFinal c → b ≡ c
one_end {a} {b} {c} here fb q fc = stays a c fb q
one_end {a} {b} {c} (there p) fb here fc = sym (stays a b fc (there p))
one_end (there p) fb (there q) fc = one_end p fb q fc

-- an expression of a source ends before a separator or the end of the tokens
abbrev pub EndsBefore : List Token → Type 0
EndsBefore [] = Unit {0}
EndsBefore (Separator ∷ ts) = Unit {0}
EndsBefore (t ∷ ts) = ⊥

ends_calm : (ts : List Token) → EndsBefore ts → Calm ts
ends_calm [] h = record { quiet = refl; no_else = λ e. cc }
ends_calm (Separator ∷ ts) h = calm_separator ts
ends_calm (t ∷ ts) h = absurd h

-- what derives before such an end is where the machine ends
pub comes_to : {e : End} (ts rest : List Token) (t : Tree) → Derives 0 e ts t → EndsBefore rest → Reaches (Want [] (ts ++ rest)) (Done t rest)
comes_to {e} ts rest t d h =
    let calm : Calm rest = ends_calm rest h in
    let c = complete d [] rest (omega arith) (calm_stops 0 e rest calm) in
    and_on c.reaches (on (quiet_ends [] c.v rest calm.quiet ∙ tree_goes c.v.tree t (λ t. Done t rest) c.tree) here)

some_tokens : (ts : List Token) → Begins ts → 0 < length ts
some_tokens [] b = absurd b
some_tokens (t ∷ ts) b = omega arith

-- an expression takes a token
pub front_shorter : (all : List Token) (t : Tree) (rest : List Token) → Reaches (Want [] all) (Done t rest) → length rest < length all
front_shorter all t rest r = let f = front_of all t rest r in omega (arith, ap length f.split, length-append f.xs rest, some_tokens f.xs (derives_begin f.derives))
