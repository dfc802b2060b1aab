-- Words: the reserved ones, and the kind of each word.
use Rattle.std.specs.Prelude.{ℕ, List, [], ◌∷◌, Option, codes}
use Rattle.std.specs.List.{find}
use Rattle.std.specs.Str.{bytes_eq}
use Rattle.sql_lexer.specs.declared.kind.Kind.{Kind}
use Rattle.sql_lexer.specs.declared.kind.Kind.TheVariants as k

-- how a reserved word is spelled
abbrev pub spelling_of : Kind → List ℕ
spelling_of k.All = codes "all"
spelling_of k.And = codes "and"
spelling_of k.Any = codes "any"
spelling_of k.As = codes "as"
spelling_of k.Asc = codes "asc"
spelling_of k.At = codes "at"
spelling_of k.Avg = codes "avg"
spelling_of k.Between = codes "between"
spelling_of k.By = codes "by"
spelling_of k.Case = codes "case"
spelling_of k.Count = codes "count"
spelling_of k.Create = codes "create"
spelling_of k.Date = codes "date"
spelling_of k.Day = codes "day"
spelling_of k.Delete = codes "delete"
spelling_of k.Desc = codes "desc"
spelling_of k.Distinct = codes "distinct"
spelling_of k.Drop = codes "drop"
spelling_of k.Else = codes "else"
spelling_of k.End = codes "end"
spelling_of k.Except = codes "except"
spelling_of k.Exists = codes "exists"
spelling_of k.Extract = codes "extract"
spelling_of k.Fetch = codes "fetch"
spelling_of k.First = codes "first"
spelling_of k.For = codes "for"
spelling_of k.From = codes "from"
spelling_of k.Full = codes "full"
spelling_of k.Group = codes "group"
spelling_of k.Having = codes "having"
spelling_of k.In = codes "in"
spelling_of k.Inner = codes "inner"
spelling_of k.Insert = codes "insert"
spelling_of k.Intersect = codes "intersect"
spelling_of k.Interval = codes "interval"
spelling_of k.Is = codes "is"
spelling_of k.Join = codes "join"
spelling_of k.Lateral = codes "lateral"
spelling_of k.Left = codes "left"
spelling_of k.Like = codes "like"
spelling_of k.Limit = codes "limit"
spelling_of k.Max = codes "max"
spelling_of k.Min = codes "min"
spelling_of k.Month = codes "month"
spelling_of k.Natural = codes "natural"
spelling_of k.Not = codes "not"
spelling_of k.Null = codes "null"
spelling_of k.On = codes "on"
spelling_of k.Only = codes "only"
spelling_of k.Or = codes "or"
spelling_of k.Order = codes "order"
spelling_of k.Outer = codes "outer"
spelling_of k.Refresh = codes "refresh"
spelling_of k.Right = codes "right"
spelling_of k.Rows = codes "rows"
spelling_of k.Run = codes "run"
spelling_of k.Select = codes "select"
spelling_of k.Some = codes "some"
spelling_of k.Substring = codes "substring"
spelling_of k.Sum = codes "sum"
spelling_of k.Then = codes "then"
spelling_of k.Union = codes "union"
spelling_of k.Version = codes "version"
spelling_of k.View = codes "view"
spelling_of k.When = codes "when"
spelling_of k.Where = codes "where"
spelling_of k.With = codes "with"
spelling_of k.Year = codes "year"
spelling_of k.Name = []
spelling_of k.Number = []
spelling_of k.Text = []
spelling_of k.OpenParen = []
spelling_of k.CloseParen = []
spelling_of k.Comma = []
spelling_of k.Semicolon = []
spelling_of k.Point = []
spelling_of k.Star = []
spelling_of k.Plus = []
spelling_of k.Minus = []
spelling_of k.Slash = []
spelling_of k.Equal = []
spelling_of k.NotEqual = []
spelling_of k.Less = []
spelling_of k.LessOrEqual = []
spelling_of k.Greater = []
spelling_of k.GreaterOrEqual = []

-- the words that are never names
abbrev pub reserved : List Kind
reserved =
    k.All ∷ k.And ∷ k.Any ∷ k.As ∷ k.Asc ∷ k.At ∷ k.Avg ∷ k.Between ∷ k.By ∷ k.Case ∷ k.Count
    ∷ k.Create ∷ k.Date ∷ k.Day ∷ k.Delete ∷ k.Desc ∷ k.Distinct ∷ k.Drop ∷ k.Else ∷ k.End
    ∷ k.Except ∷ k.Exists ∷ k.Extract ∷ k.Fetch ∷ k.First ∷ k.For ∷ k.From ∷ k.Full ∷ k.Group
    ∷ k.Having ∷ k.In ∷ k.Inner ∷ k.Insert ∷ k.Intersect ∷ k.Interval ∷ k.Is ∷ k.Join
    ∷ k.Lateral ∷ k.Left ∷ k.Like ∷ k.Limit ∷ k.Max ∷ k.Min ∷ k.Month ∷ k.Natural ∷ k.Not
    ∷ k.Null ∷ k.On ∷ k.Only ∷ k.Or ∷ k.Order ∷ k.Outer ∷ k.Refresh ∷ k.Right ∷ k.Rows ∷ k.Run
    ∷ k.Select ∷ k.Some ∷ k.Substring ∷ k.Sum ∷ k.Then ∷ k.Union ∷ k.Version ∷ k.View ∷ k.When
    ∷ k.Where ∷ k.With ∷ k.Year ∷ []

-- the reserved word that these bytes are, in lower case
abbrev pub reserved_kind : List ℕ → Option Kind
reserved_kind w = find (λ k. bytes_eq (spelling_of k) w) reserved
