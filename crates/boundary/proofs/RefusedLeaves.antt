-- A call on byte lists that is refused leaves the state list, byte for byte, whatever lists it was given.
use Rattle.std.specs.Prelude.{ℕ, ◌≡◌, ◌≢◌, Bool, List, Err, Ok, Result}
use Rattle.std.proofs.Math.Path.{refl}
use Rattle.std.proofs.Math.Bool.{true, false, cond}
use Rattle.table.specs.declared.refusal.Refusal.{Refusal}
use Rattle.guards.specs.Outcome.{Outcome}
use Rattle.promise.specs.Promise.{Call}
use Rattle.rack.specs.declared.answer.RackAnswer.{RackAnswer}
use Rattle.rack.specs.Layouts.{rows_in}
use Rattle.rack.specs.RackCalls.{StateOutcome, answered_as, list_after, kept_in, tried, guarded, rack_call, rack_arrive, rack_tick}
use Rattle.boundary.specs.OnBytes.{rack_outcome}

module _ (table state : List ℕ) where
  after_refused : (a : Result ℕ Refusal) (written : List ℕ) → (answered_as a).number ≢ 0 → list_after a written state ≡ state
  unfolding answered_as list_after
  after_refused (Ok value) written no_zero = absurd (no_zero refl)
  after_refused (Err refusal) written no_zero = refl

  kept_leaves : (n : ℕ) (o : Outcome) → (kept_in n state o).answer.number ≢ 0 → (kept_in n state o).state ≡ state
  unfolding kept_in
  kept_leaves n o = after_refused o.answer _

  guarded_leaves : (o : StateOutcome) → (o.answer.number ≢ 0 → o.state ≡ state) → (guarded table state o).answer.number ≢ 0 → (guarded table state o).state ≡ state
  unfolding guarded
  guarded_leaves o leaves = go (tried table state) _
    where
      go : (b : Bool) (a : RackAnswer) → let x = cond b o (record { answer = a; state = state }) in x.answer.number ≢ 0 → x.state ≡ state
      go true a no_zero = leaves no_zero
      go false a no_zero = refl

  pub refused_leaves : (call : Call) → (rack_outcome table state call).answer.number ≢ 0 → (rack_outcome table state call).state ≡ state
  unfolding rack_outcome rack_arrive rack_tick rack_call
  refused_leaves (Call.arrival task) = guarded_leaves _ (kept_leaves (rows_in table) _)
  refused_leaves (Call.clock_tick done released) = guarded_leaves _ (kept_leaves (rows_in table) _)
