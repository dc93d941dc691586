-- What expressions give goes on from where they begin, by one induction over the tree.
use Rattle.std.proofs.Common.{◌≡◌, ◌≤◌, ℕ, nat_lt, ◌+◌, Bool, true, false, List, [], ◌∷◌, ◌++◌, length, Option, Some, None, arith, subst}
use Rattle.std.specs.Prelude.{pos, codes}
use Rattle.ex_grammar.specs.declared.operators.Operator.{Operator}
use Rattle.ex_grammar.specs.declared.operators.Operator.TheVariants as O
use Rattle.ex_grammar.specs.Patterns.{Pattern}
use Rattle.ex_grammar.specs.Trees as E
use Rattle.ex_grammar.specs.Trees.{Tree, Trees, NoTree, Holes, NoHole, Hole, Clauses, NoClause, Choices, NoChoice, Parts, NoPart}
use Rattle.ex_terms.specs.declared.values.Value.{Value}
use Rattle.ex_terms.specs.declared.values.Value.TheVariants.{Int, Atom, Str}
use Rattle.ex_terms.specs.Seen.{term_of}
use Rattle.ex_terms.specs.Printed.{displayed}
use Rattle.ex_faults.specs.declared.fault.Fault.TheVariants.{NoMatch, NoCase, NoCond, NotABoolean, BadArgument, UnboundVariable, NoText, ValueTooLarge, TooManySteps}
use Rattle.ex_prims.specs.Answers.{nil, is_falsy, boolean_of, list, tuple}
use Rattle.ex_meaning.specs.Bound.{Bindings, seen, bound_size}
use Rattle.ex_meaning.specs.Going.{State, Going, Gives, Ends, and_then, bind, print_limit}
use Rattle.ex_meaning.specs.Matching.{units, word_value, list_items, tried}
use Rattle.ex_meaning.specs.Evaluating.{looked_up, sized, bound_or_not, decided, operator_name, operated, prefix_name, followed, put_in, taken_or, item_gives, each, over_list, generated, evaluated, all_of, in_turn, filled, first_clause, first_choice, go_through}
use Rattle.ex_meaning.specs.Means.{IsFault, value_limit, kept_small, ran_of}
use Rattle.ex_meaning.proofs.Follows.{Comes, GoesOn, Keeps, goes_later, binds, given, ended, charged, followed_by, within, either_way}
use Rattle.ex_meaning.proofs.Tries.{called_by, tries}

-- the value of a name, or its fault, goes on
looks_up : (x : List ℕ) (o : Option Value) → Keeps (λ s. looked_up x o s)
looks_up x None = ended (UnboundVariable x)
looks_up x (Some v) = given v

-- so does a value that is made
makes : (v : Value) → Keeps (λ s. sized v s)
makes v = charged (units v) (given v)

-- so does a pattern that is tried where the names have their values of now
tries_here : (base : Bindings) (p : Pattern) (v : Value) → Keeps (λ s. tried (seen base s.made) p v [] s)
tries_here base p v = record { goes = λ s. (tries (seen base s.made) p v []).goes s }

-- so does binding what a pattern found
binds_or_not : (v : Value) (o : Option Bindings) → Keeps (λ s. bound_or_not v o s)
binds_or_not v None = ended (NoMatch v)
binds_or_not v (Some found) = record { goes = λ s. binds found s }

-- `and` and `or` go on where their right operand does
decides : {right : State → Going Value} (by : Bool) (v : Value) (o : Option Bool) → Keeps right → Keeps (λ s. decided by v o right s)
decides by v None k = ended (NotABoolean v)
decides true v (Some true) k = given v
decides true v (Some false) k = within k
decides false v (Some true) k = within k
decides false v (Some false) k = given v

-- so does each operator
operates : {right : State → Going Value} (o : Operator) (v : Value) → Keeps right → Keeps (λ s. operated o v right s)
operates O.And v k = either_way (is_falsy v) (given v) (within k)
operates O.Or v k = either_way (is_falsy v) (within k) (given v)
operates O.StrictAnd v k = decides false v (boolean_of v) k
operates O.StrictOr v k = decides true v (boolean_of v) k
operates o v k = followed_by k (λ w. called_by (operator_name o) (v ∷ w ∷ []))

-- the items behind a `|` go on
joins : (vs : List Value) (o : Option (List Value)) → Keeps (λ s. followed vs o s)
joins vs None = ended (BadArgument (codes "|") 2)
joins vs (Some ws) = makes (list (vs ++ ws))

-- so does a text that is put in, where what comes after it does
puts_in : {next : List ℕ → State → Going (List ℕ)} (v : Value) (o : Option (List ℕ)) → ((t : List ℕ) → Keeps (next t)) → Keeps (λ s. put_in v o s next)
puts_in v None h = ended (NoText v)
puts_in v (Some t) h = record { goes = λ s. (h t).goes s }

-- what goes on does so also where names are bound first
bound_first : {X : Type 0} {go : State → Going X} (found : Bindings) → Keeps go → Keeps (λ s. go (bind found s))
bound_first {X} {go} found k = record { goes = λ s. goes_later s (bind found s) (go (bind found s)) (binds found s) (k.goes (bind found s)) }

-- so does a clause that may be taken, or the next ones
takes_or : {here next : State → Going Value} (o : Option Bindings) → Keeps here → Keeps next → Keeps (λ s. taken_or o s here next)
takes_or None k l = record { goes = λ s. l.goes s }
takes_or (Some found) k l = bound_first found k

-- so does an item of a generator
gives_item : {rest : State → Going (List Value)} (o : Option Bindings) → Keeps rest → Keeps (λ s. item_gives o s rest)
gives_item None k = given []
gives_item (Some found) k = bound_first found k

-- so do items, one after the other
each_gives : {one : Value → State → Going (List Value)} (vs : List Value) → ((v : Value) → Keeps (one v)) → Keeps (λ s. each one vs s)
each_gives [] h = given []
each_gives (v ∷ vs) h = followed_by (within (h v)) (λ ws. followed_by (each_gives vs h) (λ more. given (ws ++ more)))

-- a generator over a list, where each item goes on
goes_over : {one : Value → State → Going (List Value)} (o : Option (List Value)) → ((v : Value) → Keeps (one v)) → Keeps (λ s. over_list o one s)
goes_over None h = ended (BadArgument (codes "for") 1)
goes_over (Some vs) h = each_gives vs h

-- a generator, where what it generates for goes on
generates : {rest : State → Going (List Value)} (base : Bindings) (p : Pattern) (v : Value) → Keeps rest → Keeps (λ s. generated base p v rest s)
generates base p v k = goes_over (list_items v) (λ item. followed_by (tries_here base p item) (λ found. gives_item found k))

mutual
  -- an expression goes on
  pub evaluates : (base : Bindings) (t : Tree) → Keeps (λ s. evaluated base t s)
  evaluates base (E.Integer n) = charged 1 (given (Int (pos n)))
  evaluates base (E.Atom t) = charged 1 (given (Atom t))
  evaluates base (E.WordIs w) = charged 1 (given (word_value w))
  evaluates base (E.Text t NoHole) = charged 1 (given (Str t))
  evaluates base (E.Text t (Hole e u hs)) = charged 1 (followed_by (fills base (Hole e u hs) t) (λ t. makes (Str t)))
  evaluates base (E.Variable x) = charged 1 (record { goes = λ s. (looks_up x (seen base s.made x)).goes s })
  evaluates base (E.Tuple ts) = charged 1 (followed_by (gives_all base ts) (λ vs. makes (tuple vs)))
  evaluates base (E.Items ts) = charged 1 (followed_by (gives_all base ts) (λ vs. makes (list vs)))
  evaluates base (E.ItemsThen ts u) = charged 1 (followed_by (gives_all base ts) (λ vs. followed_by (evaluates base u) (λ v. joins vs (list_items v))))
  evaluates base (E.Call name ts) = charged 1 (followed_by (gives_all base ts) (λ vs. called_by name vs))
  evaluates base (E.Match p t) = charged 1 (followed_by (evaluates base t) (λ v. followed_by (tries_here base p v) (λ found. binds_or_not v found)))
  evaluates base (E.Apply o t u) = charged 1 (followed_by (evaluates base t) (λ v. operates o v (evaluates base u)))
  evaluates base (E.Prefixed o t) = charged 1 (followed_by (evaluates base t) (λ v. called_by (prefix_name o) (v ∷ [])))
  evaluates base (E.If c ts) = charged 1 (followed_by (evaluates base c) (λ v. either_way (is_falsy v) (given nil) (within (takes_turns base ts nil))))
  evaluates base (E.IfElse c ts us) = charged 1 (followed_by (evaluates base c) (λ v. either_way (is_falsy v) (within (takes_turns base us nil)) (within (takes_turns base ts nil))))
  evaluates base (E.Case t ks) = charged 1 (followed_by (evaluates base t) (λ v. within (finds_clause base ks v)))
  evaluates base (E.Cond ks) = charged 1 (within (finds_choice base ks))
  evaluates base (E.For p g parts ts) =
      charged 1 (within (followed_by (evaluates base g) (λ v.
      followed_by (generates base p v (goes_through base parts (followed_by (takes_turns base ts nil) (λ w. given (w ∷ []))))) (λ vs. makes (list vs)))))

  -- so do expressions for all their values
  gives_all : (base : Bindings) (ts : Trees) → Keeps (λ s. all_of base ts s)
  gives_all base NoTree = given []
  gives_all base (E.OneMore t ts) = followed_by (evaluates base t) (λ v. followed_by (gives_all base ts) (λ vs. given (v ∷ vs)))

  -- expressions for the value of the last
  pub takes_turns : (base : Bindings) (ts : Trees) (v : Value) → Keeps (λ s. in_turn base ts v s)
  takes_turns base NoTree v = given v
  takes_turns base (E.OneMore t ts) v = followed_by (evaluates base t) (λ v. takes_turns base ts v)

  -- a text with what is put in
  fills : (base : Bindings) (hs : Holes) (t : List ℕ) → Keeps (λ s. filled base hs t s)
  fills base NoHole t = given t
  fills base (Hole e u hs) t = followed_by (evaluates base e) (λ v. puts_in v (displayed (term_of v)) (λ w. fills base hs (t ++ (w ++ u))))

  -- the clauses of a `case`
  finds_clause : (base : Bindings) (ks : Clauses) (v : Value) → Keeps (λ s. first_clause base ks v s)
  finds_clause base NoClause v = ended (NoCase v)
  finds_clause base (E.Clause p ts ks) v = followed_by (tries_here base p v) (λ found. takes_or found (takes_turns base ts nil) (finds_clause base ks v))

  -- the conditions of a `cond`
  finds_choice : (base : Bindings) (ks : Choices) → Keeps (λ s. first_choice base ks s)
  finds_choice base NoChoice = ended NoCond
  finds_choice base (E.Choice t ts ks) = followed_by (evaluates base t) (λ v. either_way (is_falsy v) (finds_choice base ks) (takes_turns base ts nil))

  -- the further parts of a `for`, where its body goes on
  goes_through : {inner : State → Going (List Value)} (base : Bindings) (parts : Parts) → Keeps inner → Keeps (λ s. go_through base parts inner s)
  goes_through base NoPart k = record { goes = λ s. k.goes s }
  goes_through base (E.Generator p g parts) k = followed_by (evaluates base g) (λ v. generates base p v (goes_through base parts k))
  goes_through base (E.Filter f parts) k = followed_by (evaluates base f) (λ v. either_way (is_falsy v) (given []) (goes_through base parts k))

-- where an expression gives a value, the state comes after the one that it began in
pub comes_after : (base : Bindings) (t : Tree) (s u : State) (v : Value) → evaluated base t s ≡ Gives v u → Comes s u
comes_after base t s u v e = subst (λ (r : Going Value). GoesOn s r) e ((evaluates base t).goes s)

-- the test of sizes behind a cell goes on
stays_small : (v : Value) → Keeps (λ s. kept_small v s)
stays_small v = record { goes = λ s. (either_way (nat_lt value_limit (units v + bound_size s.made)) (ended ValueTooLarge) (given v)).goes s }

-- so do a cell's expressions, with that test behind them
pub means_on : (base : Bindings) (ts : Trees) → Keeps (λ s. and_then (in_turn base ts nil s) kept_small)
means_on base ts = followed_by (takes_turns base ts nil) stays_small

-- what is shown as printed has room
pub shows_fitting : (limit : ℕ) (s : State) (r : Going Value) → length s.printed ≤ print_limit → GoesOn s r → length (ran_of limit r).printed ≤ print_limit
shows_fitting limit s (Gives v t) h g = g.fits h
shows_fitting limit s (Ends f printed left) h g = g.fits h

-- where steps are wanting all are used
pub shows_used : (limit : ℕ) (s : State) (r : Going Value) → GoesOn s r → (ran_of limit r).outcome ≡ IsFault TooManySteps → (ran_of limit r).steps ≡ limit
shows_used limit s (Gives v t) g e = absurd (cc)
shows_used limit s (Ends f printed left) g e = let wanting : f ≡ TooManySteps = cc in let none : left ≡ 0 = g.used wanting in omega arith
