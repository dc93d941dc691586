-- What the lines of a script post may be posted as it is.
use Rattle.std.proofs.Common.{ℕ, List, [], ◌∷◌, ◌++◌, Option, Some, None}
use Rattle.script.specs.declared.line.ScriptLine.{ScriptLine}
use Rattle.script.specs.declared.line.ScriptLine.TheVariants.{Join, Leave, Edit, Post, PostReport, Send, Recv, Sync, Show, Pending, Settle, Cells, Book, RawJoin, Raw}
use Rattle.script.specs.declared.content.Content.{Content}
use Rattle.script.specs.Line.{client_of, IsEnd}
use Rattle.script.specs.Next.{IsNextRest, IsNext}
use Rattle.script.specs.Posts.{PostsPostable, AllPostable}

end-postable : (text : List ℕ) (line : ScriptLine) → IsEnd text line → PostsPostable line
end-postable text (Join client) is = tt
end-postable text (Leave client) is = tt
end-postable text (Edit client cell delta) is = tt
end-postable text (Post client op) is = is.0
end-postable text (PostReport client cell) is = tt
end-postable text (Send client count) is = tt
end-postable text (Recv client count) is = tt
end-postable text (Sync) is = tt
end-postable text (Show client) is = tt
end-postable text (Pending client cell) is = tt
end-postable text (Settle) is = tt
end-postable text (Cells) is = tt
end-postable text (Book) is = tt
end-postable text (RawJoin client) is = tt
end-postable text (Raw client op) is = tt

rest-postable : (names : List (List ℕ)) (rest : List ℕ) (client : Option ℕ) (line : ScriptLine) → IsNextRest names rest client line → PostsPostable line
rest-postable names rest None line is = end-postable rest line is
rest-postable names rest (Some client) line is = end-postable _ line is.1

push-postable : (ls : List ScriptLine) (line : ScriptLine) → AllPostable ls → PostsPostable line → AllPostable (ls ++ line ∷ [])
push-postable [] line all one = (one, tt)
push-postable (l ∷ ls) line all one = (all.0, push-postable ls line all.1 one)

-- a script goes on posting what may be posted
pub postable-next : (old new : Content) (word rest : List ℕ) → AllPostable old.lines → IsNext old word rest new → AllPostable new.lines
postable-next old new word rest all next = rw next.added (push-postable old.lines next.line all (rest-postable old.names rest (client_of next.line) next.line next.is.1))
