-- What expressions give, by cases on the tree, where the cell began over some bindings. Each expression takes a step when it begins.
use Rattle.std.specs.Prelude.{ℕ, pos, List, [], ◌∷◌, ◌++◌, Option, Some, None, if◌then◌else◌, Bool, true, false, codes}
use Rattle.ex_grammar.specs.declared.operators.Operator.{Operator}
use Rattle.ex_grammar.specs.declared.operators.Operator.TheVariants as O
use Rattle.ex_grammar.specs.declared.operators.Prefix.{Prefix}
use Rattle.ex_grammar.specs.declared.operators.Prefix.TheVariants.{Negate, Keep, Not, StrictNot}
use Rattle.ex_grammar.specs.Patterns.{Pattern}
use Rattle.ex_grammar.specs.Trees as E
use Rattle.ex_grammar.specs.Trees.{Tree, Trees, NoTree, Holes, NoHole, Hole, Clauses, NoClause, Choices, NoChoice, Parts, NoPart}
use Rattle.ex_terms.specs.declared.values.Value.{Value}
use Rattle.ex_terms.specs.declared.values.Value.TheVariants.{Int, Atom, Str}
use Rattle.ex_terms.specs.Seen.{term_of}
use Rattle.ex_terms.specs.Printed.{displayed}
use Rattle.ex_faults.specs.declared.fault.Fault.TheVariants.{NoMatch, NoCase, NoCond, NotABoolean, BadArgument, UnboundVariable, NoText}
use Rattle.ex_prims.specs.Answers.{nil, is_falsy, boolean_of, list, tuple}
use Rattle.ex_meaning.specs.Bound.{Bindings, seen}
use Rattle.ex_meaning.specs.Going.{State, Going, Gives, ends, charge, and_then, scoped, bind, calls}
use Rattle.ex_meaning.specs.Matching.{units, word_value, list_items, tried}

-- what operators are called
abbrev pub operator_name : Operator → List ℕ
operator_name O.Or = codes "||"
operator_name O.StrictOr = codes "or"
operator_name O.And = codes "&&"
operator_name O.StrictAnd = codes "and"
operator_name O.Equal = codes "=="
operator_name O.NotEqual = codes "!="
operator_name O.StrictEqual = codes "==="
operator_name O.StrictNotEqual = codes "!=="
operator_name O.Less = codes "<"
operator_name O.Greater = codes ">"
operator_name O.LessOrEqual = codes "<="
operator_name O.GreaterOrEqual = codes ">="
operator_name O.Member = codes "in"
operator_name O.Join = codes "++"
operator_name O.Concat = codes "<>"
operator_name O.Add = codes "+"
operator_name O.Subtract = codes "-"
operator_name O.Multiply = codes "*"

abbrev pub prefix_name : Prefix → List ℕ
prefix_name Negate = codes "-"
prefix_name Keep = codes "+"
prefix_name Not = codes "!"
prefix_name StrictNot = codes "not"

-- the value of a name, or the fault where it has none
abbrev pub looked_up : List ℕ → Option Value → State → Going Value
looked_up x None s = ends (UnboundVariable x) s
looked_up x (Some v) s = Gives v s

-- a value that was made takes its size in steps
abbrev pub sized : Value → State → Going Value
sized v s = charge (units v) s (λ s. Gives v s)

-- what a pattern found is bound, or it doesn't take the value
abbrev pub bound_or_not : Value → Option Bindings → State → Going Value
bound_or_not v None s = ends (NoMatch v) s
bound_or_not v (Some found) s = Gives v (bind found s)

-- `and` and `or` want a truth value to the left: where it is one that decides it is the value, else the right operand, whose bindings don't leave
abbrev pub decided : Bool → Value → Option Bool → (State → Going Value) → State → Going Value
decided by v None right s = ends (NotABoolean v) s
decided true v (Some true) right s = Gives v s
decided true v (Some false) right s = scoped s right
decided false v (Some true) right s = scoped s right
decided false v (Some false) right s = Gives v s

-- an operator, where its left operand is known
abbrev pub operated : Operator → Value → (State → Going Value) → State → Going Value
operated O.And v right s = if is_falsy v then Gives v s else scoped s right
operated O.Or v right s = if is_falsy v then scoped s right else Gives v s
operated O.StrictAnd v right s = decided false v (boolean_of v) right s
operated O.StrictOr v right s = decided true v (boolean_of v) right s
operated o v right s = and_then (right s) (λ w s. calls (operator_name o) (v ∷ w ∷ []) s)

-- the items behind a `|`, which are those of a list
abbrev pub followed : List Value → Option (List Value) → State → Going Value
followed vs None s = ends (BadArgument (codes "|") 2) s
followed vs (Some ws) s = sized (list (vs ++ ws)) s

-- a value's text for readers is put in
abbrev pub put_in : Value → Option (List ℕ) → State → (List ℕ → State → Going (List ℕ)) → Going (List ℕ)
put_in v None s go = ends (NoText v) s
put_in v (Some t) s go = go t s

-- a clause whose pattern takes the value is taken, with what the pattern found; else comes what is next
abbrev pub taken_or : Option Bindings → State → (State → Going Value) → (State → Going Value) → Going Value
taken_or None s here next = next s
taken_or (Some found) s here next = here (bind found s)

-- the values that one item of a generator gives: none where the pattern doesn't take it
abbrev pub item_gives : Option Bindings → State → (State → Going (List Value)) → Going (List Value)
item_gives None s rest = Gives [] s
item_gives (Some found) s rest = rest (bind found s)

-- the values that items give one after the other; each begins with the bindings from before the first
abbrev pub each : (Value → State → Going (List Value)) → List Value → State → Going (List Value)
each one [] s = Gives [] s
each one (v ∷ vs) s = and_then (scoped s (one v)) (λ ws s. and_then (each one vs s) (λ more s. Gives (ws ++ more) s))

-- a generator over a list, its pattern tried on each item and then the rest done
abbrev pub over_list : Option (List Value) → (Value → State → Going (List Value)) → State → Going (List Value)
over_list None one s = ends (BadArgument (codes "for") 1) s
over_list (Some vs) one s = each one vs s

abbrev pub generated : Bindings → Pattern → Value → (State → Going (List Value)) → State → Going (List Value)
generated base p v rest s = over_list (list_items v) (λ item s. and_then (tried (seen base s.made) p item [] s) (λ found s. item_gives found s rest)) s

abbrev mutual
  -- what an expression gives
  pub evaluated : Bindings → Tree → State → Going Value
  evaluated base (E.Integer n) s = charge 1 s (λ s. Gives (Int (pos n)) s)
  evaluated base (E.Atom t) s = charge 1 s (λ s. Gives (Atom t) s)
  evaluated base (E.WordIs w) s = charge 1 s (λ s. Gives (word_value w) s)
  evaluated base (E.Text t NoHole) s = charge 1 s (λ s. Gives (Str t) s)
  evaluated base (E.Text t (Hole e u hs)) s = charge 1 s (λ s. and_then (filled base (Hole e u hs) t s) (λ t s. sized (Str t) s))
  evaluated base (E.Variable x) s = charge 1 s (λ s. looked_up x (seen base s.made x) s)
  evaluated base (E.Tuple ts) s = charge 1 s (λ s. and_then (all_of base ts s) (λ vs s. sized (tuple vs) s))
  evaluated base (E.Items ts) s = charge 1 s (λ s. and_then (all_of base ts s) (λ vs s. sized (list vs) s))
  evaluated base (E.ItemsThen ts u) s = charge 1 s (λ s. and_then (all_of base ts s) (λ vs s. and_then (evaluated base u s) (λ v s. followed vs (list_items v) s)))
  evaluated base (E.Call name ts) s = charge 1 s (λ s. and_then (all_of base ts s) (λ vs s. calls name vs s))
  evaluated base (E.Match p t) s = charge 1 s (λ s. and_then (evaluated base t s) (λ v s. and_then (tried (seen base s.made) p v [] s) (λ found s. bound_or_not v found s)))
  evaluated base (E.Apply o t u) s = charge 1 s (λ s. and_then (evaluated base t s) (λ v s. operated o v (λ s. evaluated base u s) s))
  evaluated base (E.Prefixed o t) s = charge 1 s (λ s. and_then (evaluated base t s) (λ v s. calls (prefix_name o) (v ∷ []) s))
  -- the condition's bindings leave, those of the bodies don't
  evaluated base (E.If c ts) s = charge 1 s (λ s. and_then (evaluated base c s) (λ v s. if is_falsy v then Gives nil s else scoped s (λ s. in_turn base ts nil s)))
  evaluated base (E.IfElse c ts us) s = charge 1 s (λ s. and_then (evaluated base c s) (λ v s. if is_falsy v then scoped s (λ s. in_turn base us nil s) else scoped s (λ s. in_turn base ts nil s)))
  evaluated base (E.Case t ks) s = charge 1 s (λ s. and_then (evaluated base t s) (λ v s. scoped s (λ s. first_clause base ks v s)))
  evaluated base (E.Cond ks) s = charge 1 s (λ s. scoped s (λ s. first_choice base ks s))
  evaluated base (E.For p g parts ts) s =
      charge 1 s (λ s. scoped s (λ s. and_then (evaluated base g s) (λ v s.
      and_then (generated base p v (λ s. go_through base parts (λ s. and_then (in_turn base ts nil s) (λ w s. Gives (w ∷ []) s)) s) s) (λ vs s. sized (list vs) s))))

  -- expressions from left to right, for all their values
  pub all_of : Bindings → Trees → State → Going (List Value)
  all_of base NoTree s = Gives [] s
  all_of base (E.OneMore t ts) s = and_then (evaluated base t s) (λ v s. and_then (all_of base ts s) (λ vs s. Gives (v ∷ vs) s))

  -- expressions one after the other, for the value of the last; before the first it is the one given
  pub in_turn : Bindings → Trees → Value → State → Going Value
  in_turn base NoTree v s = Gives v s
  in_turn base (E.OneMore t ts) v s = and_then (evaluated base t s) (λ v s. in_turn base ts v s)

  -- a text goes on: the text of a value, which is put in at once, and what is written after it
  pub filled : Bindings → Holes → List ℕ → State → Going (List ℕ)
  filled base NoHole t s = Gives t s
  filled base (Hole e u hs) t s = and_then (evaluated base e s) (λ v s. put_in v (displayed (term_of v)) s (λ w s. filled base hs (t ++ (w ++ u)) s))

  -- the first clause whose pattern takes the value
  pub first_clause : Bindings → Clauses → Value → State → Going Value
  first_clause base NoClause v s = ends (NoCase v) s
  first_clause base (E.Clause p ts ks) v s = and_then (tried (seen base s.made) p v [] s) (λ found s. taken_or found s (λ s. in_turn base ts nil s) (λ s. first_clause base ks v s))

  -- the first condition that isn't falsy; a later one sees what earlier ones bound
  pub first_choice : Bindings → Choices → State → Going Value
  first_choice base NoChoice s = ends NoCond s
  first_choice base (E.Choice t ts ks) s = and_then (evaluated base t s) (λ v s. if is_falsy v then first_choice base ks s else in_turn base ts nil s)

  -- the further parts of a `for`, and within them its body
  pub go_through : Bindings → Parts → (State → Going (List Value)) → State → Going (List Value)
  go_through base NoPart inner s = inner s
  go_through base (E.Generator p g parts) inner s = and_then (evaluated base g s) (λ v s. generated base p v (λ s. go_through base parts inner s) s)
  go_through base (E.Filter f parts) inner s = and_then (evaluated base f s) (λ v s. if is_falsy v then Gives [] s else go_through base parts inner s)
