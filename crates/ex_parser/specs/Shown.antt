-- What the tokens, the nodes and the stack of the parser stand for.
use Rattle.std.specs.Prelude.{◌≡◌, ℕ, pos, negsuc, Bool, true, false, List, [], ◌∷◌, ◌++◌, drop, Option, Some, None}
use Rattle.ex_grammar.specs.declared.token.Token.{Token as CodeToken}
use Rattle.ex_grammar.specs.declared.token.TokenKind.{TokenKind}
use Rattle.ex_grammar.specs.declared.token.TokenKind.TheVariants as C
use Rattle.ex_grammar.specs.Coded.{IsToken}
use Rattle.ex_grammar.specs.Tokens.{Token, Number, Name, Called, Alias, Key, Atom, Word, Mark, TextBegins, HoleBegins, HoleEnds, TextEnds, Separator}
use Rattle.ex_grammar.specs.declared.operators.Operator.{Operator}
use Rattle.ex_grammar.specs.declared.operators.Prefix.{Prefix}
use Rattle.ex_grammar.specs.Patterns as P
use Rattle.ex_grammar.specs.Patterns.{Pattern, Patterns, NoPattern}
use Rattle.ex_grammar.specs.Trees as E
use Rattle.ex_grammar.specs.Trees.{Tree, Trees, NoTree, Holes, NoHole, Clauses, NoClause, Choices, NoChoice, Parts, NoPart}
use Rattle.ex_parser.specs.declared.tree.Node.{Node}
use Rattle.ex_parser.specs.declared.tree.Hole.{Hole}
use Rattle.ex_parser.specs.declared.tree.Clause.{Clause}
use Rattle.ex_parser.specs.declared.tree.Choice.{Choice}
use Rattle.ex_parser.specs.declared.tree.Part.{Part}
use Rattle.ex_parser.specs.declared.tree.Part.TheVariants.{Generator, Filter}
use Rattle.ex_parser.specs.declared.tree.Head.{Head}
use Rattle.ex_parser.specs.declared.parser.Held.{Held}
use Rattle.ex_parser.specs.declared.parser.Items.{Items}
use Rattle.ex_parser.specs.declared.parser.Enclosure.{Enclosure}
use Rattle.ex_parser.specs.declared.parser.Enclosure.TheVariants as W
use Rattle.ex_parser.specs.declared.parser.Block.{Block}
use Rattle.ex_parser.specs.declared.parser.Block.TheVariants as B
use Rattle.ex_parser.specs.declared.parser.Pending.{Pending}
use Rattle.ex_parser.specs.declared.parser.Pending.TheVariants as F
use Rattle.ex_parser.specs.declared.parser.Move.{Move}
use Rattle.ex_parser.specs.declared.parser.Move.TheVariants as V
use Rattle.ex_parser.specs.declared.follow.Bracket.{Bracket}
use Rattle.ex_parser.specs.declared.follow.Follow.{Follow}
use Rattle.ex_parser.specs.Follow.{Follows, follow, Begun}
use Rattle.ex_parser.specs.Machine as M
use Rattle.ex_parser.specs.Machine.{closes, State, Want, Have, Done, Stuck}
use Rattle.ex_parser.specs.Stands.{IsAt, IsPatternAt, AreAt}
use Rattle.std.specs.Prelude.{Vec}
use Rattle.std.specs.declared.alloc.Global.{Global}

-- the token that a token of the code stands for; no integer is below 0
abbrev pub token_of : TokenKind → Token
token_of (C.Integer (pos n)) = Number n
token_of (C.Integer (negsuc n)) = Number 0
token_of (C.Name x) = Name x
token_of (C.Called x) = Called x
token_of (C.Alias x) = Alias x
token_of (C.Key x) = Key x
token_of (C.Atom x) = Atom x
token_of (C.Word k) = Word k
token_of (C.Sign s) = Mark s
token_of (C.TextBegins bytes) = TextBegins bytes
token_of C.HoleBegins = HoleBegins
token_of (C.HoleEnds bytes) = HoleEnds bytes
token_of C.TextEnds = TextEnds
token_of C.Separator = Separator

abbrev pub tokens_of : List CodeToken → List Token
tokens_of [] = []
tokens_of (x ∷ xs) = token_of x.kind ∷ tokens_of xs

-- each token of the code is one of the grammar, so no integer is below 0
abbrev pub AreTokens : List CodeToken → Type 0
AreTokens [] = Unit {0}
AreTokens (x ∷ xs) = IsToken x.kind (token_of x.kind) × AreTokens xs

-- what follows, and where the tokens after it begin
abbrev pub FollowShows : List Token → Follow → Follows → Type 0
FollowShows all f m = (f.next ≡ m.next) × (drop f.after all ≡ m.rest)

-- a call begins, or none does
abbrev pub CallShows : List Token → Option (List ℕ × ℕ) → Option Begun → Type 0
CallShows all None None = Unit {0}
CallShows all None (Some b) = ⊥
CallShows all (Some p) None = ⊥
CallShows all (Some p) (Some b) = (p.0 ≡ b.name) × (drop p.1 all ≡ b.rest)

-- a bracket closes, and where the tokens after it begin
abbrev pub ClosedShows : List Token → List Token → Bracket → Option ℕ → Type 0
ClosedShows all ts b None = closes (follow ts).next b ≡ false
ClosedShows all ts b (Some after) = (closes (follow ts).next b ≡ true) × (drop after all ≡ (follow ts).rest)

-- the node is the top of the tree that was read, or there is none
abbrev pub HasTree : List Node → ℕ → Bool → Option Tree → Type 0
HasTree nodes i is None = is ≡ false
HasTree nodes i is (Some t) = (is ≡ true) × IsAt nodes i t

abbrev pub HasPattern : List Node → ℕ → Bool → Option Pattern → Type 0
HasPattern nodes i is None = is ≡ false
HasPattern nodes i is (Some p) = (is ≡ true) × IsPatternAt nodes i p

-- what the code has read is this value
pub record IsHeld (nodes : List Node) (h : Held) (v : M.Value) : Type 0 where
  pub tree : HasTree nodes h.node h.is_tree v.tree
  pub pattern : HasPattern nodes h.node h.is_pattern v.pattern
  pub level : h.level ≡ v.level
  pub negates : h.negates ≡ v.negates

-- the lists so far: in the code the last item is the last, here the first
abbrev pub TreesBehind : List Node → List ℕ → Trees → Type 0
TreesBehind nodes js NoTree = js ≡ []
TreesBehind nodes js (E.OneMore t ts) = (below : List ℕ) × (i : ℕ) × (js ≡ below ++ i ∷ []) × IsAt nodes i t × TreesBehind nodes below ts

abbrev pub PatternsBehind : List Node → List ℕ → Patterns → Type 0
PatternsBehind nodes js NoPattern = js ≡ []
PatternsBehind nodes js (P.OneMore p ps) = (below : List ℕ) × (i : ℕ) × (js ≡ below ++ i ∷ []) × IsPatternAt nodes i p × PatternsBehind nodes below ps

abbrev pub HolesBehind : List Node → List Hole → Holes → Type 0
HolesBehind nodes hs NoHole = hs ≡ []
HolesBehind nodes hs (E.Hole t bytes gs) = (below : List Hole) × (h : Hole) × (hs ≡ below ++ h ∷ []) × IsAt nodes h.tree t × (h.says ≡ bytes) × HolesBehind nodes below gs

abbrev pub ClausesBehind : List Node → List Clause → Clauses → Type 0
ClausesBehind nodes cs NoClause = cs ≡ []
ClausesBehind nodes cs (E.Clause p ts ks) = (below : List Clause) × (c : Clause) × (cs ≡ below ++ c ∷ []) × IsPatternAt nodes c.pattern p × AreAt nodes c.body.items ts × ClausesBehind nodes below ks

abbrev pub ChoicesBehind : List Node → List Choice → Choices → Type 0
ChoicesBehind nodes cs NoChoice = cs ≡ []
ChoicesBehind nodes cs (E.Choice t ts ks) = (below : List Choice) × (c : Choice) × (cs ≡ below ++ c ∷ []) × IsAt nodes c.condition t × AreAt nodes c.body.items ts × ChoicesBehind nodes below ks

abbrev pub PartsBehind : List Node → List Part → Parts → Type 0
PartsBehind nodes ps NoPart = ps ≡ []
PartsBehind nodes ps (E.Generator p g qs) = (below : List Part) × (j : ℕ) × (k : ℕ) × (ps ≡ below ++ Generator j k ∷ []) × IsPatternAt nodes j p × IsAt nodes k g × PartsBehind nodes below qs
PartsBehind nodes ps (E.Filter f qs) = (below : List Part) × (j : ℕ) × (ps ≡ below ++ Filter j ∷ []) × IsAt nodes j f × PartsBehind nodes below qs

-- the items of a bracket
abbrev pub AllTrees : List Node → List ℕ → Bool → Option Trees → Type 0
AllTrees nodes js are None = are ≡ false
AllTrees nodes js are (Some ts) = (are ≡ true) × TreesBehind nodes js ts

abbrev pub AllPatterns : List Node → List ℕ → Bool → Option Patterns → Type 0
AllPatterns nodes js are None = are ≡ false
AllPatterns nodes js are (Some ps) = (are ≡ true) × PatternsBehind nodes js ps

pub record IsListed (nodes : List Node) (x : Items) (l : M.Listed) : Type 0 where
  pub trees : AllTrees nodes x.places.items x.are_trees l.trees
  pub patterns : AllPatterns nodes x.places.items x.are_patterns l.patterns

-- what the items may be as patterns: the arguments of a call are none
abbrev pub MayHold : M.Enclosure → Option Patterns → Type 0
MayHold (M.InCall x l) ps = ps ≡ None
MayHold e ps = Unit {0}

pub data IsEnclosure : Enclosure → M.Enclosure → Type 0 where
  is_tuple : IsEnclosure W.Tuple M.InTuple
  is_list : IsEnclosure W.List M.InList
  is_call : {x : List ℕ} {l : ℕ} → IsEnclosure (W.Call x l) (M.InCall x l)

pub record IsHead (nodes : List Node) (h : Head) (m : M.Head) : Type 0 where
  pub pattern : IsPatternAt nodes h.pattern m.pattern
  pub source : IsAt nodes h.source m.source
  pub parts : PartsBehind nodes h.parts.items m.parts

pub data IsBlock : List Node → Block → M.Block → Type 0 where
  is_then : {ns : List Node} {i : ℕ} {c : Tree} → IsAt ns i c → IsBlock ns (B.Then i) (M.Then c)
  is_otherwise : {ns : List Node} {i : ℕ} {js : Vec ℕ Global} {c : Tree} {ts : Trees} → IsAt ns i c → AreAt ns js.items ts → IsBlock ns (B.Else i js) (M.Otherwise c ts)
  is_clause : {ns : List Node} {i j : ℕ} {cs : Vec Clause Global} {c : Tree} {ks : Clauses} {p : Pattern} → IsAt ns i c → ClausesBehind ns cs.items ks → IsPatternAt ns j p → IsBlock ns (B.Clause i cs j) (M.InClause c ks p)
  is_choice : {ns : List Node} {i : ℕ} {cs : Vec Choice Global} {ks : Choices} {c : Tree} → ChoicesBehind ns cs.items ks → IsAt ns i c → IsBlock ns (B.Choice cs i) (M.InChoice ks c)
  is_for : {ns : List Node} {h : Head} {m : M.Head} → IsHead ns h m → IsBlock ns (B.For h) (M.InFor m)

-- what is begun in the code is this frame
pub data IsFrame : List Node → Pending → M.Frame → Type 0 where
  is_operand : {ns : List Node} {o : Operator} {i : ℕ} {a : Tree} → IsAt ns i a → IsFrame ns (F.Operand o i) (M.Operand o a)
  is_matched : {ns : List Node} {i : ℕ} {p : Pattern} → IsPatternAt ns i p → IsFrame ns (F.Matched i) (M.Matched p)
  is_prefixed : {ns : List Node} {o : Prefix} → IsFrame ns (F.Prefixed o) (M.Prefixed o)
  is_parens : {ns : List Node} → IsFrame ns F.Parens M.Parens
  is_items : {ns : List Node} {e : Enclosure} {m : M.Enclosure} {x : Items} {l : M.Listed} → IsEnclosure e m → IsListed ns x l → MayHold m l.patterns → IsFrame ns (F.Items e x) (M.Items m l)
  is_keyed : {ns : List Node} {e : Enclosure} {m : M.Enclosure} {js ks : Vec ℕ Global} {xs ys : Trees} {x : List ℕ} → IsEnclosure e m → TreesBehind ns js.items xs → TreesBehind ns ks.items ys → IsFrame ns (F.Keyed e js ks x) (M.Keyed m xs ys x)
  is_tail : {ns : List Node} {x : Items} {l : M.Listed} → IsListed ns x l → IsFrame ns (F.Tail x) (M.Tail l)
  is_hole : {ns : List Node} {bytes : List ℕ} {hs : Vec Hole Global} {gs : Holes} → HolesBehind ns hs.items gs → IsFrame ns (F.Hole bytes hs) (M.InHole bytes gs)
  is_condition : {ns : List Node} → IsFrame ns F.If M.Condition
  is_do_if : {ns : List Node} {i : ℕ} {c : Tree} → IsAt ns i c → IsFrame ns (F.Do i) (M.DoIf c)
  is_do_else : {ns : List Node} {i j : ℕ} {c a : Tree} → IsAt ns i c → IsAt ns j a → IsFrame ns (F.ElseDo i j) (M.DoElse c a)
  is_body : {ns : List Node} {b : Block} {m : M.Block} {js : Vec ℕ Global} {xs : Trees} → IsBlock ns b m → TreesBehind ns js.items xs → IsFrame ns (F.Body b js) (M.Body m xs)
  is_subject : {ns : List Node} → IsFrame ns F.Case M.Subject
  is_first_pattern : {ns : List Node} {i : ℕ} {c : Tree} → IsAt ns i c → IsFrame ns (F.FirstPattern i) (M.FirstPattern c)
  is_first_condition : {ns : List Node} → IsFrame ns F.FirstCondition M.FirstCondition
  is_for_pattern : {ns : List Node} → IsFrame ns F.ForPattern M.ForPattern
  is_for_source : {ns : List Node} {i : ℕ} {p : Pattern} → IsPatternAt ns i p → IsFrame ns (F.ForSource i) (M.ForSource p)
  is_part : {ns : List Node} {h : Head} {m : M.Head} → IsHead ns h m → IsFrame ns (F.Part h) (M.Part m)
  is_part_source : {ns : List Node} {h : Head} {m : M.Head} {i : ℕ} {p : Pattern} → IsHead ns h m → IsPatternAt ns i p → IsFrame ns (F.PartSource h i) (M.PartSource m p)
  is_do_for : {ns : List Node} {h : Head} {m : M.Head} → IsHead ns h m → IsFrame ns (F.ForDo h) (M.DoFor m)

-- the list stands for the frames, with the topmost at its end
abbrev pub IsStack : List Node → List Pending → List M.Frame → Type 0
IsStack ns ps [] = ps ≡ []
IsStack ns ps (f ∷ s) = (below : List Pending) × (p : Pending) × (ps ≡ below ++ p ∷ []) × IsFrame ns p f × IsStack ns below s

-- the topmost one and those below it, where it was taken off
abbrev pub Tops : List Node → List Pending → Option Pending → List M.Frame → Type 0
Tops ns below None [] = below ≡ []
Tops ns below None (f ∷ s) = ⊥
Tops ns below (Some p) [] = ⊥
Tops ns below (Some p) (f ∷ s) = IsFrame ns p f × IsStack ns below s

-- the parser is in a state of the machine
abbrev pub Shows : List Node → List Pending → List Token → Move → State → Type 0
Shows ns ps all (V.Wanted at) (Want s rest) = IsStack ns ps s × (rest ≡ drop at all)
Shows ns ps all (V.Held h at) (Have s v rest) = IsStack ns ps s × IsHeld ns h v × (rest ≡ drop at all)
Shows ns ps all (V.Finished i at) (Done t rest) = (ps ≡ []) × IsAt ns i t × (rest ≡ drop at all)
Shows ns ps all V.Failed Stuck = Unit {0}
Shows ns ps all m st = ⊥

-- the nodes with more after them
abbrev pub Grows : List Node → List Node → Type 0
Grows ns ns' = (more : List Node) × (ns' ≡ ns ++ more)

-- the parser comes to a state, and keeps the nodes that it had
pub record Turned (ns ns' : List Node) (ps' : List Pending) (all : List Token) (m : Move) (st : State) : Type 0 where
  pub grows : Grows ns ns'
  pub shows : Shows ns' ps' all m st

-- what was read is the node at this place: an expression that is no pattern, and one that may be both
abbrev pub tree_held : ℕ → ℕ → Held
tree_held i l = record { node = i; level = l; is_tree = true; is_pattern = false; negates = false }

abbrev pub plain_held : ℕ → Bool → Bool → Held
plain_held i t p = record { node = i; level = 11; is_tree = t; is_pattern = p; negates = false }

-- the node of what was read, where that is a tree or a pattern
abbrev pub TreeShows : List Node → Option ℕ → Option Tree → Type 0
TreeShows nodes None None = Unit {0}
TreeShows nodes None (Some t) = ⊥
TreeShows nodes (Some i) None = ⊥
TreeShows nodes (Some i) (Some t) = IsAt nodes i t

abbrev pub PatternShows : List Node → Option ℕ → Option Pattern → Type 0
PatternShows nodes None None = Unit {0}
PatternShows nodes None (Some p) = ⊥
PatternShows nodes (Some i) None = ⊥
PatternShows nodes (Some i) (Some p) = IsPatternAt nodes i p
