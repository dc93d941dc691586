-- What the lines of a script post.
use Rattle.std.specs.Prelude.{◌≡◌, true, List}
use Rattle.std.specs.List.{AllByRecursion}
use Rattle.session_ops.specs.Structure.{is_postable}
use Rattle.script.specs.declared.line.ScriptLine.{ScriptLine}
use Rattle.script.specs.declared.line.ScriptLine.TheVariants.{Join, Leave, Edit, Post, PostReport, Send, Recv, Sync, Show, Pending, Settle, Cells, Book, RawJoin, Raw}

-- an operation that the line posts may be posted as it is
abbrev pub PostsPostable : ScriptLine → Type 0
PostsPostable (Post client op) = is_postable op ≡ true
PostsPostable (Join client) = Unit {0}
PostsPostable (Leave client) = Unit {0}
PostsPostable (Edit client cell delta) = Unit {0}
PostsPostable (PostReport client cell) = Unit {0}
PostsPostable (Send client count) = Unit {0}
PostsPostable (Recv client count) = Unit {0}
PostsPostable (Sync) = Unit {0}
PostsPostable (Show client) = Unit {0}
PostsPostable (Pending client cell) = Unit {0}
PostsPostable (Settle) = Unit {0}
PostsPostable (Cells) = Unit {0}
PostsPostable (Book) = Unit {0}
PostsPostable (RawJoin client) = Unit {0}
PostsPostable (Raw client op) = Unit {0}

abbrev pub AllPostable : List ScriptLine → Type 0
AllPostable lines = AllByRecursion PostsPostable lines
