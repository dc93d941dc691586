use Rattle.std.proofs.Common.{sym, ap, ◌∙◌, drop}
use Rattle.std.proofs.lemmas.Result.{IfOk-weaker}
use Rattle.ex_grammar.specs.declared.token.TokenKind.TheVariants as C
use Rattle.ex_parser.specs.Machine.{first}
use Rattle.ex_parser.specs.Shown.{token_of, tokens_of}
use Rattle.ex_parser.proofs.FirstTurns.{at_same, reads_integer, reads_atom}
use Rattle.ex_parser.proofs.parser.Parser.first.Goals as goal

pub returns-in-Integer : goal.returns-in-Integer
returns-in-Integer c =
    IfOk-weaker c.plain.result _ _ (λ m e. λ s t k. reads_integer _ c.args.kind.now c.in-Integer.n (tokens_of c.args.tokens.now) s c.in-Integer.is t e k) c.plain.ensures

pub returns-in_ok-copy-in-Atom : goal.returns-in_ok-copy-in-Atom
returns-in_ok-copy-in-Atom c =
    IfOk-weaker c.plain-in-Atom.result _ _ (λ m e. λ s t k. reads_atom _ c.args.kind.now c.in_ok-copy-in-Atom.field-0 (tokens_of c.args.tokens.now) s (c.in-Atom.is ∙ ap C.Atom (sym c.in_ok-copy-in-Atom.ensures)) e k) c.plain-in-Atom.ensures

pub returns-in-Name : goal.returns-in-Name
returns-in-Name c =
    let all = tokens_of c.args.tokens.now in
    IfOk-weaker c.first_name.result _ _ (λ m e. λ s t k. at_same (λ v. first (token_of v) s (drop c.args.after all)) (C.Name c.in-Name.name) c.args.kind.now c.in-Name.is (e all s k)) c.first_name.ensures

pub returns-in-Key : goal.returns-in-Key
returns-in-Key c =
    let all = tokens_of c.args.tokens.now in
    IfOk-weaker c.first_key.result _ _ (λ m e. λ s t k. at_same (λ v. first (token_of v) s (drop c.args.after all)) (C.Key c.in-Key.key) c.args.kind.now c.in-Key.is (e all s k)) c.first_key.ensures
