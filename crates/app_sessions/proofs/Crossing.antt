-- What the threads of a job work on may cross threads, from the lowest types up.
use denote.RattleType.{RattleType}
use denote.Param.Send.{IsSend, IsSync, sendable}
use denote.Param.SendFields.{declared_send}
use Rattle.std.proofs.Crossing.{crosses}
use Rattle.base_text.specs.contracts.text.Text as Text
use Rattle.sql_bound_query.proofs.query.BoundAggregate.TheLaws.TheKnot.{crosses as query_crosses}
use Rattle.sql_bound_query.specs.contracts.query.BoundBlock as Block
use Rattle.sql_bound_query.specs.contracts.query.SetColumn as SetColumn
use Rattle.base_set_rows.specs.contracts.kind.SetOperation as SetOperation
use Rattle.expr_scalar.proofs.expr.Expr.TheLaws.TheKnot.{crosses as expr_crosses}
use Rattle.expr_scalar.specs.contracts.expr.Expr as Expr
use Rattle.sql_ast.proofs.tree.Block.TheLaws.TheKnot.{crosses as tree_crosses}
use Rattle.sql_ast.specs.contracts.statement.Query as Query
use Rattle.sql_ast.specs.contracts.statement.Statement as Statement
use Rattle.sql_ast.specs.contracts.tree.Block as Tree
use Rattle.store_snapshots.proofs.reader.Reader.TheSendSync.{the_send as reader_send}
use Rattle.store_snapshots.specs.declared.entry.Entry.{Ghosts}
use Rattle.store_versions.specs.declared.attachment.Attachment.{Ghosts as Attached}
use Rattle.plan_planner.specs.contracts.views.SessionViews as Views
use Rattle.app_sessions.specs.contracts.session.Session as Session
use Rattle.app_sessions.specs.contracts.worker.Worker as Worker

pub text_send : IsSend Text.the_row
text_send = search (sendable, crosses) depth 60 fits 20000

pub expr_send : IsSend Expr.the_row
expr_send = search (expr_crosses, text_send, sendable, crosses) depth 60 fits 20000

pub set_column_send : IsSend SetColumn.the_row
set_column_send = declared_send SetColumn.the_type (expr_send, (expr_send, tt))

pub set_operation_send : IsSend SetOperation.the_row
set_operation_send = search (sendable, crosses) depth 60 fits 20000

pub block_send : IsSend Block.the_row
block_send =
    search (query_crosses, set_column_send, set_operation_send, expr_send, sendable, crosses)
    depth 60 fits 20000

pub tree_field : IsSend (Tree.the_field).row
tree_field = search (tree_crosses, text_send, sendable, crosses) depth 60 fits 20000

pub query_field : IsSend (Query.the_field).row
query_field = search (tree_field, text_send, sendable, crosses) depth 60 fits 20000

pub statement_send : IsSend Statement.the_row
statement_send = search (query_field, tree_field, text_send, sendable, crosses) depth 60 fits 20000

pub views_send : IsSend Views.the_row
views_send = search (block_send, text_send, sendable, crosses) depth 60 fits 20000

pub session_send : IsSend Session.the_row
session_send =
    search (statement_send, views_send, block_send, text_send, sendable, crosses) depth 60
    fits 20000

pub worker_send : (E N A : RattleType) (g : Ghosts E.Denot N.Denot A.Denot) (h : Attached A.Denot) → IsSend E → IsSend A → IsSync A → IsSend (Worker.the_row E N A g h)
worker_send E N A g h s sent shared = declared_send (Worker.the_type E N A g h) (
  reader_send E N A g h s sent shared,
  (
    search (session_send, sendable, crosses) depth 40 fits 20000,
    (search sendable depth 20, (search sendable depth 20, (search sendable depth 20, tt))),
  ),
)
