use Rattle.std.proofs.Common.{◌≡◌, [], true, codes, refl, rules}
use Rattle.std.proofs.lemmas.Slice.Eq.{bytes_eq-Decides}
use Rattle.script.proofs.Spelling.{empty-from_test}
use Rattle.script.proofs.form.plain_line.Goals as goal

pub returns-then-eq : goal.returns-then-eq
returns-then-eq c =
    let word : c.args.word.now ≡ codes "sync" = search (rules, bytes_eq-Decides) in
    let empty : c.is_empty.result ≡ true = search rules in
    let end : c.args.rest.now ≡ [] = empty-from_test c.args.rest.now c.is_empty.result c.is_empty.ensures empty in
    record { word_is = word; client = refl; end_is = end }

pub returns-then-eq-2 : goal.returns-then-eq-2
returns-then-eq-2 c =
    let word : c.args.word.now ≡ codes "settle" = search (rules, bytes_eq-Decides) in
    let empty : c.is_empty.result ≡ true = search rules in
    let end : c.args.rest.now ≡ [] = empty-from_test c.args.rest.now c.is_empty.result c.is_empty.ensures empty in
    record { word_is = word; client = refl; end_is = end }

pub returns-then-eq-3 : goal.returns-then-eq-3
returns-then-eq-3 c =
    let word : c.args.word.now ≡ codes "cells" = search (rules, bytes_eq-Decides) in
    let empty : c.is_empty.result ≡ true = search rules in
    let end : c.args.rest.now ≡ [] = empty-from_test c.args.rest.now c.is_empty.result c.is_empty.ensures empty in
    record { word_is = word; client = refl; end_is = end }

pub returns-then-eq-4 : goal.returns-then-eq-4
returns-then-eq-4 c =
    let word : c.args.word.now ≡ codes "book" = search (rules, bytes_eq-Decides) in
    let empty : c.is_empty.result ≡ true = search rules in
    let end : c.args.rest.now ≡ [] = empty-from_test c.args.rest.now c.is_empty.result c.is_empty.ensures empty in
    record { word_is = word; client = refl; end_is = end }
