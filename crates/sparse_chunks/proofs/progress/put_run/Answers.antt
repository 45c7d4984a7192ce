use Rattle.std.proofs.Common.{◌≡◌, ℕ, List, [], Option, Some, unwrap_or, length, ap, subst, sym, ◌∙◌, rules}
use Rattle.outside.specs.Files.{bytes_of}
use Rattle.sparse_chunks.specs.Progress.{IsWritten, Takes, done_after, end_after}
use Rattle.sparse_chunks.specs.declared.progress.Placed.{Placed}
use Rattle.sparse_chunks.proofs.Growing.{appended, grown, grown_long}
use Rattle.sparse_chunks.proofs.progress.put_run.Goals as goal

pub returns-in_ok-put_new-in-None-clause-written :
    goal.returns-in_ok-put_new-in-None-clause-written
returns-in_ok-put_new-in-None-clause-written g c told image cover alike raw old =
    let bytes_are = ap (λ (o : Option (List ℕ)). unwrap_or o []) (c.in_ok-put_new-in-None.ensures.wrote told) in
    subst (IsWritten image cover c.args.block _) (sym bytes_are)
    (appended image cover c.args.block c.end_after-end.result c.args.progress.now _ c.args.bytes.now c.args.run
    (c.end_after-end.ensures ∙ (c.requires.there told).1) c.in-None.ensures c.requires.first c.requires.some c.requires.short alike raw old)

pub returns-in_ok-put_more-in-Some-clause-there : goal.returns-in_ok-put_more-in-Some-clause-there
returns-in_ok-put_more-in-Some-clause-there g c told =
    let block = c.args.block in
    let l = c.in-Some-last.last in
    let is = c.in-Some-last.is in
    let wrote = c.in_ok-put_more-in-Some.ensures.wrote told in
    let bytes_are = ap (λ (o : Option (List ℕ)). unwrap_or o []) wrote in
    let takes = subst (λ (o : Option Placed). Takes block o c.args.run (Some c.in-Some.count)) is c.in-Some.ensures in
    let before = bytes_of (g.F.Files.file c.args.files.now) c.args.to.now in
    let end = subst (λ (o : Option Placed). end_after block o ≡ length before) is (c.requires.there told).1 in
    (wrote ∙ ap (λ (xs : List ℕ). Some xs) (sym bytes_are), grown_long block c.in-Some.count l before c.args.bytes.now end takes.more (search rules) ∙ ap (λ (xs : List ℕ). length xs) (sym bytes_are))

pub returns-in_ok-put_more-in-Some-clause-written :
    goal.returns-in_ok-put_more-in-Some-clause-written
returns-in_ok-put_more-in-Some-clause-written g c told image cover alike raw old =
    let block = c.args.block in
    let is = c.in-Some-last.is in
    let bytes_are = ap (λ (o : Option (List ℕ)). unwrap_or o []) (c.in_ok-put_more-in-Some.ensures.wrote told) in
    let takes = subst (λ (o : Option Placed). Takes block o c.args.run (Some c.in-Some.count)) is c.in-Some.ensures in
    let first = subst (λ (o : Option Placed). c.args.run.first ≡ done_after o) is c.requires.first in
    subst (IsWritten image cover block _) (sym bytes_are)
    (grown image cover block c.in-Some.count c.args.progress.now c.in-Some-last.last _ c.args.bytes.now c.args.run is takes first alike raw old)
