-- Steps of the machine, and small facts for them.
use Rattle.std.proofs.Common.{◌≡◌, false, List, [], ◌∷◌, ◌++◌, Option, Some, refl, sym, subst}
use Rattle.ex_grammar.specs.declared.token.Sign.{Sign}
use Rattle.ex_grammar.specs.declared.token.Sign.TheVariants as S
use Rattle.ex_grammar.specs.declared.token.Keyword.{Keyword}
use Rattle.ex_grammar.specs.declared.token.Keyword.TheVariants as K
use Rattle.ex_grammar.specs.Tokens.{Token, Mark, Word}
use Rattle.ex_grammar.specs.Patterns.{Pattern}
use Rattle.ex_grammar.specs.Trees as E
use Rattle.ex_grammar.specs.Trees.{Tree, Trees, NoTree, OneMore, joined}
use Rattle.ex_grammar.specs.Grammar.{is_negation, MaySeparate, without, with}
use Rattle.ex_parser.specs.Follow.{after_separator}
use Rattle.ex_parser.specs.Machine.{State, Enclosure, InTuple, InList, InCall, with_tree, with_pattern, step, Reaches, here, there}
use Rattle.ex_parser.proofs.Fronts.{Begins, begins_here}

pub and_on : {a b c : State} → Reaches a b → Reaches b c → Reaches a c
and_on here q = q
and_on (there p) q = there (and_on p q)

-- one step, and more
pub on : {a b c : State} → step a ≡ b → Reaches b c → Reaches a c
on {a} {b} {c} e r = there (subst (λ x. Reaches x c) (sym e) r)

-- where the state at the begin is known by another name
pub from : {a b c : State} → a ≡ b → Reaches b c → Reaches a c
from {a} {b} {c} e r = subst (λ x. Reaches x c) (sym e) r

pub tree_goes : (o : Option Tree) (t : Tree) (go : Tree → State) → o ≡ Some t → with_tree o go ≡ go t
tree_goes o t go e = rw e refl

pub pattern_goes : (o : Option Pattern) (p : Pattern) (go : Pattern → State) → o ≡ Some p → with_pattern o go ≡ go p
pattern_goes o p go e = rw e refl

-- `!` and `not` make a negation, and nothing else does
abbrev pub NotPrefixed : Tree → Type 0
NotPrefixed (E.Prefixed o t) = ⊥
NotPrefixed t = Unit {0}

bang_negates : (ts : List Token) (t : Tree) → NotPrefixed t → is_negation (Mark S.Bang ∷ ts) t ≡ false
bang_negates ts (E.Prefixed o t) n = absurd n
bang_negates ts t n = refl

not_negates : (ts : List Token) (t : Tree) → NotPrefixed t → is_negation (Word K.Not ∷ ts) t ≡ false
not_negates ts (E.Prefixed o t) n = absurd n
not_negates ts t n = refl

sign_negates : (m : Sign) (ts : List Token) (t : Tree) → NotPrefixed t → is_negation (Mark m ∷ ts) t ≡ false
sign_negates S.Bang ts t n = bang_negates ts t n
sign_negates m ts t n = refl

word_negates : (k : Keyword) (ts : List Token) (t : Tree) → NotPrefixed t → is_negation (Word k ∷ ts) t ≡ false
word_negates K.Not ts t n = not_negates ts t n
word_negates k ts t n = refl

pub plain_negates : (ts : List Token) (t : Tree) → NotPrefixed t → is_negation ts t ≡ false
plain_negates [] t n = refl
plain_negates (Mark m ∷ ts) t n = sign_negates m ts t n
plain_negates (Word k ∷ ts) t n = word_negates k ts t n
plain_negates (u ∷ ts) t n = refl

-- the token that closes
abbrev pub closing : Enclosure → Token
closing InTuple = Mark S.CloseBrace
closing InList = Mark S.CloseBracket
closing (InCall x l) = Mark S.CloseParen

pub joined_none : (xs : Trees) → joined xs NoTree ≡ xs
joined_none NoTree = refl
joined_none (OneMore x xs) = rw (joined_none xs) refl

-- a separator that may stand there is passed over
pub skips : {sep : List Token} → MaySeparate sep → (ts : List Token) → Begins ts → after_separator (sep ++ ts) ≡ ts
skips without ts b = begins_here ts b
skips with ts b = refl
