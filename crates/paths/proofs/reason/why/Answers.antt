use Rattle.std.proofs.Common.{take, refl, subst}
use Rattle.process.proofs.Ordered.{next-some, next-none}
use Rattle.model.specs.declared.model.Model.{Model}
use Rattle.model.specs.Models as models
use Rattle.paths.specs.Paths.{Route}
use Rattle.paths.specs.Reasons.{Unheld}
use Rattle.paths.specs.Routings.{model_of, flows_of}
use Rattle.paths.proofs.Nodes.{flows-few}
use Rattle.paths.proofs.Reasons.{none-held, lowest-held, why-made}
use Rattle.paths.proofs.reason.why.Goals as goal

pub returns-in_err-holder : goal.returns-in_err-holder
returns-in_err-holder c =
    let r = c.args.routing.now in
    let tokens = c.args.tokens in
    let g = c.args.gateway in
    let list = c.args.list.now in
    let none : Unheld (flows_of r) tokens g list list =
    record {
      none = none-held (flows_of r) (flows-few (model_of r)) tokens g c.holders.result c.holders.ensures (next-none c.holders.result 0 c.in_err-holder.ensures);
      unchanged = refl;
    } in
    rw c.from_residual.ensures none

pub end_of-end-requires : goal.end_of-end-requires
end_of-end-requires c = (c.holders.ensures c.in_ok-holder.holder).0 (next-some c.holders.result 0 c.in_ok-holder.holder c.in_ok-holder.ensures).member

pub returns : goal.returns
returns c =
    let r = c.args.routing.now in
    let tokens = c.args.tokens in
    let g = c.args.gateway in
    let held = c.holders.result in
    let f = c.in_ok-holder.holder in
    let e = c.end_of-end.result in
    let next = next-some held 0 f c.in_ok-holder.ensures in
    let path = take c.write_path-length.result c.write_path-length.new.list in
    record {
      few = c.write_path-length.ensures.few;
      why =
          why-made (flows_of r) tokens g f e path ((c.holders.ensures f).0 next.member) (lowest-held (flows_of r) (flows-few (model_of r)) tokens g held c.holders.ensures f next)
          c.end_of-end.ensures (subst (λ (m : Model). Route (models.flows_of m) g f e path) c.model.ensures c.write_path-length.ensures.route);
      rest = c.write_path-length.ensures.rest;
    }
