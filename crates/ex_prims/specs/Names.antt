-- The names of the built-in calls and operators, with one argument and with two.
use Rattle.std.specs.Prelude.{ℕ, List, [], ◌∷◌, Option, Some, None, codes, if◌then◌else◌}
use Rattle.std.specs.Str.{bytes_eq}
use Rattle.ex_prims.specs.declared.functions.Unary.{Unary}
use Rattle.ex_prims.specs.declared.functions.Unary.TheVariants as U
use Rattle.ex_prims.specs.declared.functions.Binary.{Binary}
use Rattle.ex_prims.specs.declared.functions.Binary.TheVariants as B

-- what is called by a name in a table
abbrev pub named_in : {F : Type 0} → List (List ℕ × F) → List ℕ → Option F
named_in [] name = None
named_in (row ∷ rows) name = if bytes_eq name row.0 then Some row.1 else named_in rows name

abbrev pub unary_names : List (List ℕ × Unary)
unary_names =
    (codes "-", U.Negate) ∷ (codes "+", U.Keep) ∷ (codes "!", U.Not) ∷ (codes "not", U.StrictNot) ∷ (codes "abs", U.Absolute)
    ∷ (codes "Integer.to_string", U.IntegerToString) ∷ (codes "String.to_integer", U.StringToInteger)
    ∷ (codes "length", U.Length) ∷ (codes "Enum.count", U.Length) ∷ (codes "tuple_size", U.TupleSize) ∷ (codes "byte_size", U.ByteSize)
    ∷ (codes "hd", U.Head) ∷ (codes "tl", U.Tail) ∷ (codes "to_string", U.ToString) ∷ (codes "inspect", U.Inspect)
    ∷ (codes "is_integer", U.IsInteger) ∷ (codes "is_atom", U.IsAtom) ∷ (codes "is_binary", U.IsBinary) ∷ (codes "is_list", U.IsList)
    ∷ (codes "is_tuple", U.IsTuple) ∷ (codes "is_boolean", U.IsBoolean) ∷ (codes "is_nil", U.IsNil)
    ∷ (codes "Enum.sum", U.Sum) ∷ (codes "Enum.reverse", U.Reverse) ∷ (codes "Enum.sort", U.Sort) ∷ (codes "Enum.uniq", U.Unique)
    ∷ (codes "Enum.with_index", U.WithIndex) ∷ (codes "Enum.max", U.Greatest) ∷ (codes "Enum.min", U.Least)
    ∷ (codes "List.first", U.First) ∷ (codes "List.last", U.Last) ∷ (codes "List.to_tuple", U.ListToTuple) ∷ (codes "Tuple.to_list", U.TupleToList)
    ∷ (codes "IO.puts", U.Puts) ∷ (codes "IO.inspect", U.Show) ∷ (codes "Mix.install", U.Install) ∷ []

abbrev pub binary_names : List (List ℕ × Binary)
binary_names =
    (codes "+", B.Add) ∷ (codes "-", B.Subtract) ∷ (codes "*", B.Multiply) ∷ (codes "++", B.Append) ∷ (codes "<>", B.Concat) ∷ (codes "in", B.In)
    ∷ (codes "==", B.Equal) ∷ (codes "===", B.Equal) ∷ (codes "!=", B.NotEqual) ∷ (codes "!==", B.NotEqual)
    ∷ (codes "<", B.Less) ∷ (codes ">", B.Greater) ∷ (codes "<=", B.LessOrEqual) ∷ (codes ">=", B.GreaterOrEqual)
    ∷ (codes "max", B.Max) ∷ (codes "min", B.Min) ∷ (codes "div", B.Divide) ∷ (codes "rem", B.Remainder)
    ∷ (codes "Integer.mod", B.Modulo) ∷ (codes "Integer.pow", B.Power) ∷ (codes "elem", B.Element)
    ∷ (codes "Enum.member?", B.HasMember) ∷ (codes "Enum.at", B.At) ∷ (codes "Enum.take", B.Take) ∷ (codes "Enum.drop", B.Drop)
    ∷ (codes "Enum.join", B.Join) ∷ (codes "Enum.zip", B.Zip)
    ∷ (codes "String.duplicate", B.Duplicate) ∷ (codes "String.split", B.Split) ∷ (codes "String.contains?", B.Contains)
    ∷ (codes "String.starts_with?", B.StartsWith) ∷ (codes "String.ends_with?", B.EndsWith) ∷ (codes "Mix.install", B.Install) ∷ []
