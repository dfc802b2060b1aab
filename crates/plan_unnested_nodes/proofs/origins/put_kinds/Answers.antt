use Rattle.std.proofs.Common.{sym, subst, length}
use Rattle.std.specs.Prelude.{IsTrue, nat_lt}
use Rattle.std.specs.List.{list_all}
use Rattle.plan_algebra.specs.Plans.{inputs_of}
use Rattle.plan_unnested_nodes.specs.PlanKinds.{has_matched, AreMade}
use Rattle.plan_unnested_nodes.proofs.KindNodes.{inputs_there, matched_there, made_kinds}
use Rattle.plan_unnested_nodes.proofs.Turns.{kinds_put}
use Rattle.plan_unnested_nodes.proofs.origins.put_kinds.Goals as goal

pub node_kinds-requires-clause-inputs : goal.node_kinds-requires-clause-inputs
node_kinds-requires-clause-inputs c =
    subst (λ ks. IsTrue (list_all (λ i. nat_lt i (length ks)) (inputs_of c.index-nodes-i.result))) (sym c.as_slice.ensures.value)
    (inputs_there c.args.nodes.now c.args.i c.index-nodes-i.result c.args.kinds.now.items c.requires.formed c.requires.within c.index-nodes-i.is c.requires.kinds)

pub node_kinds-requires-clause-matched : goal.node_kinds-requires-clause-matched
node_kinds-requires-clause-matched c =
    subst (λ ks. IsTrue (has_matched ks c.index-nodes-i.result)) (sym c.as_slice.ensures.value)
    (matched_there c.args.nodes.now c.args.i c.args.kinds.now.items c.requires.formed c.requires.within c.requires.kinds c.index-nodes-i.result c.index-nodes-i.is)

pub returns : goal.returns
returns c =
    kinds_put c.args.nodes.now c.args.i c.args.kinds.now.items c.push.new.self.items c.in_ok-own.own c.requires.kinds
    (made_kinds c.args.nodes.now c.args.i c.args.kinds.now.items c.requires.formed c.requires.within c.requires.kinds c.index-nodes-i.result c.in_ok-own.own c.index-nodes-i.is
    (subst (λ ks. AreMade ks c.index-nodes-i.result c.in_ok-own.own) c.as_slice.ensures.value c.in_ok-own.ensures)) c.in_ok-push.ensures.items
