use Rattle.std.proofs.Common.{not, sym, ap, ◌∙◌}
use Rattle.marking.specs.Markings.{tokens_of, nodes_of, flows_of}
use Rattle.marking.proofs.Readiness.{ready-by-all, ready-by-token, ready-by-number, waits_for-token}
use Rattle.marking.proofs.marking.Marking.is_ready.Goals as goal

pub returns-in-Parallel : goal.returns-in-Parallel
returns-in-Parallel c =
    let m = c.args.self.now in
    let n = c.args.node in
    ready-by-all (nodes_of m) (flows_of m) (tokens_of m) n c.kind.result c.kind.ensures c.inbound-inbound.result c.inbound-inbound.ensures
    c.is_empty.result c.difference.result c.is_empty.ensures c.difference.ensures c.in-Parallel.is

pub returns-then-not-is_empty : goal.returns-then-not-is_empty
returns-then-not-is_empty c =
    let m = c.args.self.now in
    let n = c.args.node in
    let both = c.intersection-coming_in in
    ready-by-number (nodes_of m) (flows_of m) (tokens_of m) n c.kind.result c.kind.ensures c.inbound-inbound.result c.inbound-inbound.ensures both.result both.ensures
    c.holding_number.result c.in-Inclusive.is (sym c.if-not-is_empty.ensures) c.holding_number.ensures

pub returns-else-not-is_empty : goal.returns-else-not-is_empty
returns-else-not-is_empty c =
    let m = c.args.self.now in
    let n = c.args.node in
    let both = c.intersection-coming_in in
    let none = sym c.if-not-is_empty.ensures in
    waits_for-token (nodes_of m) (flows_of m) (tokens_of m) n c.kind.result c.kind.ensures c.inbound-inbound.result c.inbound-inbound.ensures both.result both.ensures
    (not c.is_empty-in-Inclusive.result) c.in-Inclusive.is (ap not (c.is_empty-in-Inclusive.ensures ∙ none)) none

pub returns-in-End : goal.returns-in-End
returns-in-End c =
    let m = c.args.self.now in
    let n = c.args.node in
    let both = c.intersection-coming_in in
    ready-by-token (nodes_of m) (flows_of m) (tokens_of m) n c.kind.result c.kind.ensures c.inbound-inbound.result c.inbound-inbound.ensures both.result both.ensures
    c.is_empty-in-End.result c.is_empty-in-End.ensures c.in-End.is
