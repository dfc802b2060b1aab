-- What each node of an expression binds is typed, where its parts are.
use Rattle.std.proofs.Common.{◌≡◌, ℕ, ◌+◌, List, [], ◌∷◌, length}
use Rattle.std.proofs.Common.{refl, sym, ap, ◌∙◌, subst, arith}
use Rattle.std.specs.Prelude.{Some, Ok, slice_get}
use Rattle.base_row_laws.specs.Bags.{Each}
use Rattle.sql_bound_query.specs.Typing.{kind_of_input}
use Rattle.sql_bound_query.specs.declared.query.Input.{Input}
use Rattle.sql_bound_query.specs.declared.query.Input.TheVariants as input
use Rattle.expr_scalar.specs.declared.expr.Expr.TheVariants as e
use Rattle.expr_scalar.specs.declared.kind.Kind.{Kind}
use Rattle.expr_scalar.specs.declared.kind.Kind.TheVariants.{Number}
use Rattle.sql_ast.specs.declared.words.Column.{Column}
use Rattle.sql_ast.specs.declared.words.Comparison.{Comparison as Compared}
use Rattle.sql_ast.specs.declared.words.Span.{Span}
use Rattle.sql_binder_steps.specs.declared.collected.BoundKind.TheVariants.{Value, Condition}
use Rattle.sql_binder_steps.specs.declared.collected.Chain.{Chain}
use Rattle.sql_binder_steps.specs.declared.collected.Collected.{Collected}
use Rattle.sql_binder_steps.specs.declared.collected.Conditions.{Conditions}
use Rattle.sql_binder_steps.specs.declared.collected.Operands.{Operands}
use Rattle.sql_binder_steps.specs.declared.collected.Typed.{Typed}
use Rattle.sql_binder_steps.specs.declared.scope.ColumnAt.{ColumnAt}
use Rattle.sql_binder_steps.specs.Names.{Sight, resolved}
use Rattle.sql_binder_steps.specs.Steps.{Name, Checked, ◌>>=◌, pure, lift}
use Rattle.sql_binder_steps.specs.Steps.{input as one_input}
use Rattle.sql_binder_steps.specs.Values.{typed, negative, compared}
use Rattle.sql_binder_steps.specs.Values.{null_test, between, liked, in_list, denied}
use Rattle.sql_binder_steps.specs.Values.{extracted, substring, begun}
use Rattle.sql_binder_steps.specs.Values.{ended, first_condition}
use Rattle.sql_binder_steps.specs.Values.{next_condition, all_of, any_of, with_operand, no_operands}
use Rattle.sql_binder_steps.specs.Values.{case_of, case_else_of}
use Rattle.sql_binder.specs.Meanings.{Meaning, ChainMeaning, ArmMeaning}
use Rattle.sql_binder.specs.Operands.{conditions_from, conditions, operands_from, operands}
use Rattle.sql_binder.specs.Operands.{chain_from, chain, conditions_of_arms, arm_conditions}
use Rattle.sql_binder.specs.Operands.{values_of_arms, arm_values}
use Rattle.sql_binder_steps.specs.Parts.{column}
use Rattle.sql_binder_laws.proofs.TypedOperands.{AreOf}
use Rattle.sql_binder_laws.proofs.TypedOperands.{column_typed, mark_typed, denied_typed}
use Rattle.sql_binder_laws.proofs.TypedOperands.{are_more}
use Rattle.sql_binder_laws.proofs.TypedSteps.{Ready, World, world_at, Known, Goes}
use Rattle.sql_binder_laws.proofs.TypedSteps.{front_self, goes_on, goes_lift, goes_pure}
use Rattle.sql_binder_laws.proofs.TypedSteps.{goes_input, known_on}
use Rattle.sql_binder_laws.proofs.TypedNames.{resolved_kind}
use Rattle.sql_binder_laws.proofs.TypedMade.{length_more, TypedIs, negative_is, compared_is}
use Rattle.sql_binder_laws.proofs.TypedMade.{null_test_is, between_is, liked_is, denied_is}
use Rattle.sql_binder_laws.proofs.TypedMade.{extracted_is, substring_is, in_list_is, ChainIs, begun_is}
use Rattle.sql_binder_laws.proofs.TypedMade.{ended_is, TestsIn, first_is, next_is, all_of_is, any_of_is}
use Rattle.sql_binder_laws.proofs.TypedMade.{case_is, case_else_is}

-- ---- meanings

-- in a world
abbrev pub TypedIn : (sight : Sight) → World sight → Typed → Type 0
TypedIn sight w t = TypedIs t w.kinds

-- an expression is typed wherever it stands
abbrev pub MeaningIs : Meaning → Type 0
MeaningIs m = (sight : Sight) (s : Collected) → Ready sight
    → Goes sight (TypedIn sight) (m.binds sight) s

-- so is a term or a factor
abbrev pub ChainMeaningIs : ChainMeaning → Type 0
ChainMeaningIs m = (sight : Sight) (s : Collected) (c : Chain) → Ready sight
    → Known sight (λ w. ChainIs c w.kinds) s
    → Goes sight (λ w d. ChainIs d w.kinds) (m.adds sight c) s

-- an arm
abbrev pub ArmMeaningIs : ArmMeaning → Type 0
ArmMeaningIs a = MeaningIs a.condition × MeaningIs a.value

module _ (sight : Sight) (ready : Ready sight) where
  -- one operand
  one_goes : (m : Meaning) (f : Typed → Checked Typed) (s : Collected) → MeaningIs m
      → ((x r : Typed) (ks : List Kind) → f x ≡ Ok r → TypedIs x ks → TypedIs r ks)
      → Goes sight (TypedIn sight) (m.binds sight >>= (λ x. lift (f x))) s
  one_goes m f s is made =
      goes_on sight (TypedIn sight) (TypedIn sight) (m.binds sight) (λ x. lift (f x)) s
      (is sight s ready)
      (λ x t g k. goes_lift sight (TypedIn sight) (f x) t
      (λ r h. λ w p q. made x r w.kinds h (k w p q)))

  -- two
  two_goes : (m n : Meaning) (f : Typed → Typed → Checked Typed) (s : Collected) → MeaningIs m
      → MeaningIs n
      → ((x y r : Typed) (ks : List Kind) → f x y ≡ Ok r → TypedIs x ks → TypedIs y ks
      → TypedIs r ks)
      → Goes sight (TypedIn sight) (m.binds sight >>= (λ x. n.binds sight >>= (λ y. lift (f x y))))
      s
  two_goes m n f s is also made =
      goes_on sight (TypedIn sight) (TypedIn sight) (m.binds sight)
      (λ x. n.binds sight >>= (λ y. lift (f x y))) s (is sight s ready)
      (λ x t g k. goes_on sight (TypedIn sight) (TypedIn sight) (n.binds sight) (λ y. lift (f x y))
      t (also sight t ready)
      (λ y u g' k'. goes_lift sight (TypedIn sight) (f x y) u
      (λ r h. λ w p q. made x y r w.kinds h (known_on sight (λ v. TypedIs x v.kinds) t u g' k w p q)
      (k' w p q))))

  conditions_go : (ms : List Meaning) (done : Conditions) (s : Collected) → Each MeaningIs ms
      → Known sight (λ w. TestsIn done w.kinds) s
      → Goes sight (λ w c. TestsIn c w.kinds) (conditions_from sight done ms) s
  conditions_go [] done s is known = goes_pure sight (λ w c. TestsIn c w.kinds) done s known
  conditions_go (m ∷ ms) done s is known =
      goes_on sight (TypedIn sight) (λ w c. TestsIn c w.kinds) (m.binds sight)
      (λ a. lift (next_condition done a) >>= (λ d. conditions_from sight d ms)) s
      (is.0 sight s ready)
      (λ a t g k. goes_on sight (λ w c. TestsIn c w.kinds) (λ w c. TestsIn c w.kinds)
      (lift (next_condition done a)) (λ d. conditions_from sight d ms) t
      (goes_lift sight (λ w c. TestsIn c w.kinds) (next_condition done a) t
      (λ d h. λ w p q. next_is done a d w.kinds h
      (known_on sight (λ v. TestsIn done v.kinds) s t g known w p q) (k w p q)))
      (λ d u g' k'. conditions_go ms d u is.1 k'))

  -- operands, and how many they are
  abbrev OperandsIn : ℕ → World sight → Operands → Type 0
  OperandsIn n w o = AreOf o.values o.kinds w.kinds × (length o.values ≡ n)

  operands_go : (ms : List Meaning) (done : Operands) (n : ℕ) (s : Collected) → Each MeaningIs ms
      → Known sight (λ w. OperandsIn n w done) s
      → Goes sight (OperandsIn (n + length ms)) (operands_from sight done ms) s
  operands_go [] done n s is known =
      goes_pure sight (OperandsIn (n + 0)) done s
      (λ w p q. let k = known w p q in (k.0, k.1 ∙ omega arith))
  operands_go (m ∷ ms) done n s is known =
      goes_on sight (TypedIn sight) (OperandsIn (n + length (m ∷ ms))) (m.binds sight)
      (λ a. operands_from sight (with_operand done a) ms) s (is.0 sight s ready)
      (λ a t g k. let e : (n + 1) + length ms ≡ n + length (m ∷ ms) = omega arith in
      subst (λ j. Goes sight (OperandsIn j) (operands_from sight (with_operand done a) ms) t) e
      (operands_go ms (with_operand done a) (n + 1) t is.1
      (λ w p q. let before = known_on sight (λ v. OperandsIn n v done) s t g known w p q in (
        are_more done.values done.kinds a.value a.kind w.kinds before.0 (k w p q),
        length_more done.values a.value ∙ ap (λ j. j + 1) before.1,
      ))))

  chain_go : (ms : List ChainMeaning) (done : Chain) (s : Collected) → Each ChainMeaningIs ms
      → Known sight (λ w. ChainIs done w.kinds) s
      → Goes sight (TypedIn sight) (chain_from sight done ms) s
  chain_go [] done s is known =
      goes_pure sight (TypedIn sight) (ended done) s (λ w p q. ended_is done w.kinds (known w p q))
  chain_go (m ∷ ms) done s is known =
      goes_on sight (λ w d. ChainIs d w.kinds) (TypedIn sight) (m.adds sight done)
      (λ d. chain_from sight d ms) s (is.0 sight s done ready known)
      (λ d t g k. chain_go ms d t is.1 k)

  -- the conditions of CASE's arms
  arm_conditions_go : (arms : List ArmMeaning) (done : Operands) (n : ℕ) (s : Collected)
      → Each ArmMeaningIs arms → Known sight (λ w. OperandsIn n w done) s
      → Goes sight (OperandsIn (n + length arms)) (conditions_of_arms sight done arms) s
  arm_conditions_go [] done n s is known =
      goes_pure sight (OperandsIn (n + 0)) done s
      (λ w p q. let k = known w p q in (k.0, k.1 ∙ omega arith))
  arm_conditions_go (a ∷ arms) done n s is known =
      goes_on sight (TypedIn sight) (OperandsIn (n + length (a ∷ arms))) (a.condition.binds sight)
      (λ x. conditions_of_arms sight (with_operand done x) arms) s (is.0.0 sight s ready)
      (λ x t g k. let e : (n + 1) + length arms ≡ n + length (a ∷ arms) = omega arith in
      subst (λ j. Goes sight (OperandsIn j) (conditions_of_arms sight (with_operand done x) arms) t)
      e
      (arm_conditions_go arms (with_operand done x) (n + 1) t is.1
      (λ w p q. let before = known_on sight (λ v. OperandsIn n v done) s t g known w p q in (
        are_more done.values done.kinds x.value x.kind w.kinds before.0 (k w p q),
        length_more done.values x.value ∙ ap (λ j. j + 1) before.1,
      ))))

  -- their values
  arm_values_go : (arms : List ArmMeaning) (done : Operands) (n : ℕ) (s : Collected)
      → Each ArmMeaningIs arms → Known sight (λ w. OperandsIn n w done) s
      → Goes sight (OperandsIn (n + length arms)) (values_of_arms sight done arms) s
  arm_values_go [] done n s is known =
      goes_pure sight (OperandsIn (n + 0)) done s
      (λ w p q. let k = known w p q in (k.0, k.1 ∙ omega arith))
  arm_values_go (a ∷ arms) done n s is known =
      goes_on sight (TypedIn sight) (OperandsIn (n + length (a ∷ arms))) (a.value.binds sight)
      (λ x. values_of_arms sight (with_operand done x) arms) s (is.0.1 sight s ready)
      (λ x t g k. let e : (n + 1) + length arms ≡ n + length (a ∷ arms) = omega arith in
      subst (λ j. Goes sight (OperandsIn j) (values_of_arms sight (with_operand done x) arms) t) e
      (arm_values_go arms (with_operand done x) (n + 1) t is.1
      (λ w p q. let before = known_on sight (λ v. OperandsIn n v done) s t g known w p q in (
        are_more done.values done.kinds x.value x.kind w.kinds before.0 (k w p q),
        length_more done.values x.value ∙ ap (λ j. j + 1) before.1,
      ))))

  none_known : (s : Collected) → Known sight (λ w. OperandsIn 0 w no_operands) s
  none_known s = λ w p q. (tt, refl)

  -- ---- the nodes

  pub negative_goes : (a : Meaning) (s : Collected) → MeaningIs a
      → Goes sight (TypedIn sight) (a.binds sight >>= (λ x. lift (negative x))) s
  negative_goes a s p = one_goes a negative s p negative_is

  pub null_test_goes : (a : Meaning) (s : Collected) → MeaningIs a
      → Goes sight (TypedIn sight) (a.binds sight >>= (λ x. lift (null_test x))) s
  null_test_goes a s p = one_goes a null_test s p null_test_is

  pub not_goes : (a : Meaning) (s : Collected) → MeaningIs a
      → Goes sight (TypedIn sight) (a.binds sight >>= (λ x. lift (denied x))) s
  not_goes a s p = one_goes a denied s p denied_is

  pub like_goes : (a : Meaning) (pattern : Name) (s : Collected) → MeaningIs a
      → Goes sight (TypedIn sight) (a.binds sight >>= (λ x. lift (liked x pattern))) s
  like_goes a pattern s p = one_goes a (λ x. liked x pattern) s p (liked_is pattern)

  pub extract_goes : (span : Span) (a : Meaning) (s : Collected) → MeaningIs a
      → Goes sight (TypedIn sight) (a.binds sight >>= (λ x. lift (extracted span x))) s
  extract_goes span a s p = one_goes a (extracted span) s p (extracted_is span)

  pub substring_goes : (a : Meaning) (from count : ℕ) (s : Collected) → MeaningIs a
      → Goes sight (TypedIn sight) (a.binds sight >>= (λ x. lift (substring x from count))) s
  substring_goes a from count s p =
      one_goes a (λ x. substring x from count) s p (substring_is from count)

  pub compare_goes : (c : Compared) (a b : Meaning) (s : Collected) → MeaningIs a → MeaningIs b
      → Goes sight (TypedIn sight)
      (a.binds sight >>= (λ x. b.binds sight >>= (λ y. lift (compared c x y)))) s
  compare_goes c a b s p q = two_goes a b (compared c) s p q (compared_is c)

  pub between_goes : (a low high : Meaning) (s : Collected) → MeaningIs a → MeaningIs low
      → MeaningIs high
      → Goes sight (TypedIn sight)
      (a.binds sight >>= (λ x.
      low.binds sight >>= (λ y. high.binds sight >>= (λ z. lift (between x y z))))) s
  between_goes a low high s p q o =
      goes_on sight (TypedIn sight) (TypedIn sight) (a.binds sight)
      (λ x. low.binds sight >>= (λ y. high.binds sight >>= (λ z. lift (between x y z)))) s
      (p sight s ready)
      (λ x t g k. goes_on sight (TypedIn sight) (TypedIn sight) (low.binds sight)
      (λ y. high.binds sight >>= (λ z. lift (between x y z))) t (q sight t ready)
      (λ y u g' k'. goes_on sight (TypedIn sight) (TypedIn sight) (high.binds sight)
      (λ z. lift (between x y z)) u (o sight u ready)
      (λ z v g'' k''. goes_lift sight (TypedIn sight) (between x y z) v
      (λ r h. λ w f b. between_is x y z r w.kinds h
      (known_on sight (λ m. TypedIs x m.kinds) u v g''
      (known_on sight (λ m. TypedIs x m.kinds) t u g' k) w f b)
      (known_on sight (λ m. TypedIs y m.kinds) u v g'' k' w f b)
      (k'' w f b)))))

  pub in_list_goes : (a : Meaning) (list : List Meaning) (s : Collected) → MeaningIs a
      → Each MeaningIs list
      → Goes sight (TypedIn sight)
      (a.binds sight >>= (λ x. operands sight list >>= (λ ys. lift (in_list x ys)))) s
  unfolding operands
  in_list_goes a list s p q =
      goes_on sight (TypedIn sight) (TypedIn sight) (a.binds sight)
      (λ x. operands_from sight no_operands list >>= (λ ys. lift (in_list x ys))) s
      (p sight s ready)
      (λ x t g k. goes_on sight (OperandsIn (0 + length list)) (TypedIn sight)
      (operands_from sight no_operands list) (λ ys. lift (in_list x ys)) t
      (operands_go list no_operands 0 t q (none_known t))
      (λ ys u g' k'. goes_lift sight (TypedIn sight) (in_list x ys) u
      (λ r h. λ w f b. in_list_is x ys r w.kinds h
      (known_on sight (λ m. TypedIs x m.kinds) t u g' k w f b) (k' w f b).0)))

  pub and_goes : (a : Meaning) (rest : List Meaning) (s : Collected) → MeaningIs a
      → Each MeaningIs rest
      → Goes sight (TypedIn sight)
      (a.binds sight >>= (λ x. conditions sight x rest >>= (λ c. lift (all_of c)))) s
  unfolding conditions
  and_goes a rest s p q =
      goes_on sight (TypedIn sight) (TypedIn sight) (a.binds sight)
      (λ x. conditions_from sight (first_condition x) rest >>= (λ c. lift (all_of c))) s
      (p sight s ready)
      (λ x t g k. goes_on sight (λ w c. TestsIn c w.kinds) (TypedIn sight)
      (conditions_from sight (first_condition x) rest) (λ c. lift (all_of c)) t
      (conditions_go rest (first_condition x) t q (λ w f b. first_is x w.kinds (k w f b)))
      (λ c u g' k'. goes_lift sight (TypedIn sight) (all_of c) u
      (λ r h. λ w f b. all_of_is c r w.kinds h (k' w f b))))

  pub or_goes : (a : Meaning) (rest : List Meaning) (s : Collected) → MeaningIs a
      → Each MeaningIs rest
      → Goes sight (TypedIn sight)
      (a.binds sight >>= (λ x. conditions sight x rest >>= (λ c. lift (any_of c)))) s
  unfolding conditions
  or_goes a rest s p q =
      goes_on sight (TypedIn sight) (TypedIn sight) (a.binds sight)
      (λ x. conditions_from sight (first_condition x) rest >>= (λ c. lift (any_of c))) s
      (p sight s ready)
      (λ x t g k. goes_on sight (λ w c. TestsIn c w.kinds) (TypedIn sight)
      (conditions_from sight (first_condition x) rest) (λ c. lift (any_of c)) t
      (conditions_go rest (first_condition x) t q (λ w f b. first_is x w.kinds (k w f b)))
      (λ c u g' k'. goes_lift sight (TypedIn sight) (any_of c) u
      (λ r h. λ w f b. any_of_is c r w.kinds h (k' w f b))))

  -- a sum and a product
  pub chain_goes : (a : Meaning) (rest : List ChainMeaning) (s : Collected) → MeaningIs a
      → Each ChainMeaningIs rest
      → Goes sight (TypedIn sight) (a.binds sight >>= (λ x. chain sight x rest)) s
  unfolding chain
  chain_goes a rest s p q =
      goes_on sight (TypedIn sight) (TypedIn sight) (a.binds sight)
      (λ x. chain_from sight (begun x) rest) s (p sight s ready)
      (λ x t g k. chain_go rest (begun x) t q (λ w f b. begun_is x w.kinds (k w f b)))

  pub case_goes : (arms : List ArmMeaning) (s : Collected) → Each ArmMeaningIs arms
      → Goes sight (TypedIn sight)
      (arm_conditions sight arms >>=
      (λ whens. arm_values sight arms >>= (λ gives. lift (case_of whens gives)))) s
  unfolding arm_conditions arm_values
  case_goes arms s is =
      goes_on sight (OperandsIn (0 + length arms)) (TypedIn sight)
      (conditions_of_arms sight no_operands arms)
      (λ whens. values_of_arms sight no_operands arms >>= (λ gives. lift (case_of whens gives))) s
      (arm_conditions_go arms no_operands 0 s is (none_known s))
      (λ whens t g k. goes_on sight (OperandsIn (0 + length arms)) (TypedIn sight)
      (values_of_arms sight no_operands arms) (λ gives. lift (case_of whens gives)) t
      (arm_values_go arms no_operands 0 t is (none_known t))
      (λ gives u g' k'. goes_lift sight (TypedIn sight) (case_of whens gives) u
      (λ r h. λ w f b. let a =
      known_on sight (λ m. OperandsIn (0 + length arms) m whens) t u g' k w f b in
      let c = k' w f b in
      case_is whens gives r w.kinds h (a.1 ∙ sym c.1) a.0 c.0)))

  pub case_else_goes : (arms : List ArmMeaning) (other : Meaning) (s : Collected)
      → Each ArmMeaningIs arms → MeaningIs other
      → Goes sight (TypedIn sight)
      (arm_conditions sight arms >>=
      (λ whens. arm_values sight arms >>=
      (λ gives. other.binds sight >>= (λ x. lift (case_else_of whens gives x))))) s
  unfolding arm_conditions arm_values
  case_else_goes arms other s is also =
      goes_on sight (OperandsIn (0 + length arms)) (TypedIn sight)
      (conditions_of_arms sight no_operands arms)
      (λ whens. values_of_arms sight no_operands arms >>=
      (λ gives. other.binds sight >>= (λ x. lift (case_else_of whens gives x)))) s
      (arm_conditions_go arms no_operands 0 s is (none_known s))
      (λ whens t g k. goes_on sight (OperandsIn (0 + length arms)) (TypedIn sight)
      (values_of_arms sight no_operands arms)
      (λ gives. other.binds sight >>= (λ x. lift (case_else_of whens gives x))) t
      (arm_values_go arms no_operands 0 t is (none_known t))
      (λ gives u g' k'. goes_on sight (TypedIn sight) (TypedIn sight) (other.binds sight)
      (λ x. lift (case_else_of whens gives x)) u (also sight u ready)
      (λ x v g'' k''. goes_lift sight (TypedIn sight) (case_else_of whens gives x) v
      (λ r h. λ w f b.
      let a = known_on sight (λ m. OperandsIn (0 + length arms) m whens) u v g''
      (known_on sight (λ m. OperandsIn (0 + length arms) m whens) t u g' k) w f b in
      let c = known_on sight (λ m. OperandsIn (0 + length arms) m gives) u v g'' k' w f b in
      case_else_is whens gives x r w.kinds h (a.1 ∙ sym c.1) a.0 c.0 (k'' w f b)))))

  -- ---- inputs

  -- an input of a kind, as a value
  pub value_goes : (i : Input) (k : Kind) (s : Collected)
      → Known sight (λ w. kind_of_input i w.env ≡ Some k) s
      → Goes sight (TypedIn sight) (one_input i >>= (λ n. pure (typed (e.Column n) (Value k)))) s
  value_goes i k s known =
      goes_on sight (λ w n. slice_get w.inputs n ≡ Some i) (TypedIn sight) (one_input i)
      (λ n. pure (typed (e.Column n) (Value k))) s
      (goes_input sight i s (λ env f c ih ah.
      (k, known (world_at sight s env f c ih ah) (front_self s.inputs) (front_self s.aggregates))))
      (λ n t g at. goes_pure sight (TypedIn sight) (typed (e.Column n) (Value k)) t
      (λ w p q. column_typed n k w.kinds
      (w.are n i (at w p q) ∙ known_on sight (λ v. kind_of_input i v.env ≡ Some k) s t g known w p
      q)))

  -- an input that is a mark, as a condition
  pub mark_goes : (i : Input) (s : Collected)
      → Known sight (λ w. kind_of_input i w.env ≡ Some (Number 0)) s
      → Goes sight (TypedIn sight)
      (one_input i >>= (λ n. pure (typed (e.IsMarked (e.Column n)) Condition))) s
  mark_goes i s known =
      goes_on sight (λ w n. slice_get w.inputs n ≡ Some i) (TypedIn sight) (one_input i)
      (λ n. pure (typed (e.IsMarked (e.Column n)) Condition)) s
      (goes_input sight i s (λ env f c ih ah. (
        Number 0,
        known (world_at sight s env f c ih ah) (front_self s.inputs)
            (front_self s.aggregates),
      )))
      (λ n t g at. goes_pure sight (TypedIn sight) (typed (e.IsMarked (e.Column n)) Condition) t
      (λ w p q. mark_typed n 0 w.kinds
      (w.are n i (at w p q) ∙ known_on sight (λ v. kind_of_input i v.env ≡ Some (Number 0)) s t g
      known w p q)))

  -- the same denied
  pub denied_mark_goes : (i : Input) (s : Collected)
      → Known sight (λ w. kind_of_input i w.env ≡ Some (Number 0)) s
      → Goes sight (TypedIn sight)
      (one_input i >>= (λ n. pure (typed (e.Not (e.IsMarked (e.Column n))) Condition))) s
  denied_mark_goes i s known =
      goes_on sight (λ w n. slice_get w.inputs n ≡ Some i) (TypedIn sight) (one_input i)
      (λ n. pure (typed (e.Not (e.IsMarked (e.Column n))) Condition)) s
      (goes_input sight i s (λ env f c ih ah. (
        Number 0,
        known (world_at sight s env f c ih ah) (front_self s.inputs)
            (front_self s.aggregates),
      )))
      (λ n t g at. goes_pure sight (TypedIn sight) (typed (e.Not (e.IsMarked (e.Column n))) Condition) t
      (λ w p q. denied_typed Condition (e.IsMarked (e.Column n)) w.kinds refl (mark_typed n 0 w.kinds
      (w.are n i (at w p q) ∙ known_on sight (λ v. kind_of_input i v.env ≡ Some (Number 0)) s t g
      known w p q))))

  -- a column
  pub column_goes : (wanted : Column) (s : Collected)
      → Goes sight (TypedIn sight) (column sight wanted) s
  unfolding column
  column_goes wanted s =
      goes_on sight (λ w (c : ColumnAt). resolved sight wanted ≡ Ok c) (TypedIn sight)
      (lift (resolved sight wanted))
      (λ c. one_input (input.Column c.level c.at) >>=
      (λ n. pure (typed (e.Column n) (Value c.kind)))) s
      (goes_lift sight (λ w (c : ColumnAt). resolved sight wanted ≡ Ok c) (resolved sight wanted) s
      (λ c h. λ w p q. h))
      (λ c t g k. value_goes (input.Column c.level c.at) c.kind t
      (λ w p q. resolved_kind sight w.env wanted c w.fits (k w p q)))
