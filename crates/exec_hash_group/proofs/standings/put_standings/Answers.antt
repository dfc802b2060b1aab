use Rattle.std.proofs.Common.{sym, arith}
use Rattle.std.proofs.lemmas.List.{append-nil}
use Rattle.exec_hash_group.specs.Standings.{ranks}
use Rattle.exec_hash_group.proofs.Ranks.{row_rank_more}
use Rattle.exec_hash_group.proofs.standings.put_standings.Goals as goal

pub loop-i-init : goal.loop-i-init
loop-i-init c = sym (append-nil (ranks c.args.standings.now.items))

pub loop-i-preserved : goal.loop-i-preserved
loop-i-preserved c =
    row_rank_more c.args.batch.now.rows c.loop-i.i c.standing.result c.loop-i.standings.items c.push.new.self.items (ranks c.args.standings.now.items)
    (omega arith) c.standing.ensures c.loop-i.invariant c.in_ok-push.ensures.items
