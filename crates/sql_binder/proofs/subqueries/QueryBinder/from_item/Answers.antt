use Rattle.sql_binder.proofs.subqueries.QueryBinder.from_item.Goals as goal

pub hidden-requires : goal.hidden-requires
hidden-requires g c = c.requires.derived _ _ _ c.in-Derived.is

pub lateral-requires : goal.lateral-requires
lateral-requires g c = c.requires.lateral _ _ _ c.in-Lateral.is
