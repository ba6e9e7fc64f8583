use Rattle.wtf8.proofs.Common.{◌≡◌, ◌<◌, ◌+◌, ℕ, List, [], ◌∷◌, ◌++◌, length, get_or, cond, Some, refl, ap, ◌∙◌, sym, subst}
use Rattle.wtf8.proofs.Common.{arith, append_assoc, All, Step, Run, CallsAppend, IsNoTruncation, Build, ◌≤◌, take, drop, inl, inr}
use Rattle.wtf8.proofs.Common.{false≢true, cases_lt, append-nil, IsForm, EachCallFits, All-nil, All-cons, take_all, All-get_or, FitWithin}
use Rattle.wtf8.proofs.Common.{none-some, LeavesReserved, Reserve, rules, length-append}
use Rattle.std.proofs.lemmas.Option.{same_Some, slice_get_read}
use Rattle.wtf8.specs.Building.{appended_units, reserved_bytes}
use Rattle.wtf8.proofs.lemmas.strings.StringLaws.{reserved_more, runs_add}
use Rattle.wtf8.proofs.lemmas.strings.Concatenation.{take-cons-drop, take-push}
use Rattle.wtf8.proofs.lemmas.strings.ExtendedForms.{Found, found_more, beginning_of_form}
use Rattle.wtf8.proofs.buffers.buf.Wtf8Buf.apply_all.Goals.{In_default}
use Rattle.wtf8.proofs.buffers.buf.Wtf8Buf.apply_all.Goals as goal

-- Runs of building calls, call by call, and the units that pushes and extensions append.

-- a call that appends `a`: it doesn't truncate or reserve, and has this outcome only
record Adds (u : List ℕ) (call : Build) (a : List ℕ) : Type 0 where
  no_truncation : IsNoTruncation call
  reserves_none : reserved_bytes call ≡ 0
  step : Step u call (u ++ a) 0
  only : (v : List ℕ) (r : ℕ) → Step u call v r → v ≡ u ++ a

Adds-from_appended : (u : List ℕ) (call : Build) (a : List ℕ) → appended_units call ≡ Some a → Adds u call a
Adds-from_appended u call a e = grind (arith, none-some, same_Some)

-- a run of pushes and extensions appends the units of all, and none of them truncates
run_appends : (u : List ℕ) (calls : List Build) (v : List ℕ) (n : ℕ) (a : List ℕ) → Run u calls v n → CallsAppend calls a → v ≡ u ++ a
run_appends u [] v n a x e = x.0 ∙ (sym (append-nil u) ∙ ap (λ b. u ++ b) (sym e))
run_appends u (call ∷ calls) v n a x e = grind (arith, Adds-from_appended, append_assoc, run_appends x.0 calls v x.2 e.1 x.4 e.3)

none_truncates : (calls : List Build) (a : List ℕ) → CallsAppend calls a → All IsNoTruncation calls
none_truncates [] a e = All-nil IsNoTruncation
none_truncates (call ∷ calls) a e = grind (arith, All-cons, Adds-from_appended, none_truncates calls e.1 e.3)

-- if all that they append fits the capacity, each fits
each_call_fits : (u : List ℕ) (calls : List Build) (a : List ℕ) (capacity : ℕ) → CallsAppend calls a → FitWithin (u ++ a) 0 capacity
    → EachCallFits u calls (u ++ a) capacity
each_call_fits u [] a capacity e fit = ap (λ b. u ++ b) e ∙ append-nil u
each_call_fits u (call ∷ calls) a capacity e fit =
    let mid = u ++ e.0 in
    let whole : u ++ a ≡ mid ++ e.1 = ap (λ b. u ++ b) e.4 ∙ sym (append_assoc u e.0 e.1) in
    let fits : FitWithin (mid ++ e.1) 0 capacity = subst (λ w. FitWithin w 0 capacity) whole fit in
    let here = Adds-from_appended u call e.0 e.2 in
    let b = beginning_of_form mid e.1 fits.whole fits.form in (
      mid,
      record {
        no_truncation = here.no_truncation;
        step = here.step;
        fits = record { whole = b.whole; form = b.form; within = omega (arith, b.within, fits.within, here.reserves_none) };
      },
      subst (λ w. EachCallFits mid calls w capacity) (sym whole) (each_call_fits mid calls e.1 capacity e.3 fits),
    )

call_among : (calls : List Build) (i : ℕ) (call : Build) → i < length calls → call ≡ get_or calls i call → All IsNoTruncation calls
    → IsNoTruncation call
call_among calls i call h e all = subst IsNoTruncation (sym e) (All-get_or IsNoTruncation calls i call h all)

-- of a list that begins with the calls up to the refused one, not each fits
no_room : (g : _) (c : In_default g) (more : List Build) (v : List ℕ)
    → ¬ (EachCallFits c.args.self.now.units
    (take c.loop-done.done c.args.calls.now ++ c.index-calls-done.result ∷ more) v c.args.self.now.capacity)
no_room g c more v whole = grind (arith, false≢true)

pub loop-done-preserved : goal.loop-done-preserved
loop-done-preserved g c =
    let i = c.loop-done.done in
    let calls = c.args.calls.now in
    let call = c.index-calls-done.result in
    let inv = c.loop-done.invariant in
    let more = take-push calls i call (omega arith) c.index-calls-done.is in
    let u = c.args.self.now.units in
    let was = c.loop-done.self.units in
    let now = c.apply.new.self.units in
    let one : Run was (call ∷ []) now (cond c.in-Ok.kept 0 1) = (now, _, 0, c.in-Ok.ensures.step, (refl, refl), omega arith) in
    let run = runs_add u was now (take i calls) (call ∷ []) c.loop-done.refused (cond c.in-Ok.kept 0 1) inv.ran one in
    let count : (c.if-not-kept.refused ≡ c.loop-done.refused + cond c.in-Ok.kept 0 1) × (c.if-not-kept.refused ≤ i + 1) =
    grind (arith, c.if-not-kept.branch, inv.counted) in
    record {
      ran = subst (λ d. Run u d now c.if-not-kept.refused) (sym more)
          (subst (λ n. Run u (take i calls ++ call ∷ []) now n) (sym count.0) run);
      counted = count.1;
      found = subst (λ d. Found u d now c.args.self.now.capacity c.apply.new.self.capacity) (sym more)
          (found_more (cond c.in-Ok.kept 0 1) inv.found c.in-Ok.ensures.step (λ v f. c.in-Ok.ensures.capacity f.no_truncation));
      reserved = subst (λ d. LeavesReserved u d c.apply.new.self.capacity) (sym more)
          (reserved_more c.loop-done.refused inv.reserved inv.ran c.in-Ok.ensures.capacity (λ m e.
          let same = (subst (λ d. Step was d now (cond c.in-Ok.kept 0 1)) e c.in-Ok.ensures.step).0 in
          record {
            whole = c.apply.new.self.bytes;
            form = subst (IsForm c.apply.new.self.bytes) same c.apply.new.self.form;
            within = c.in-Ok.ensures.reserved m e;
          }));
      no_smaller = λ all.
          omega (arith, inv.no_smaller all, c.in-Ok.ensures.capacity (call_among calls i call (omega arith) c.index-calls-done.is all));
    }

pub returns-in_default-clause-found : goal.returns-in_default-clause-found
returns-in_default-clause-found g c v room =
    let whole = take-cons-drop c.args.calls.now c.loop-done.done c.index-calls-done.result (omega arith) c.index-calls-done.is in
    absurd
    (no_room g (goal.at.returns-in_default-clause-found g c).In_default (drop (c.loop-done.done + 1) c.args.calls.now) v (rw whole room))

pub returns-in_default-clause-missed : goal.returns-in_default-clause-missed
returns-in_default-clause-missed g c v room =
    let more = take-push c.args.calls.now c.loop-done.done c.index-calls-done.result (omega arith) c.index-calls-done.is in
    no_room g (goal.at.returns-in_default-clause-missed g c).In_default [] v (rw more at room)

pub returns-in_default-clause-no_smaller : goal.returns-in_default-clause-no_smaller
returns-in_default-clause-no_smaller g c all = grind (arith, call_among)

pub returns-in_default-clause-room : goal.returns-in_default-clause-room
returns-in_default-clause-room g c v all fit =
    returns-in_default-clause-found g c _ (each_call_fits c.args.self.now.units c.args.calls.now v _ all fit)

pub returns-in_default-clause-outgrown : goal.returns-in_default-clause-outgrown
returns-in_default-clause-outgrown g c v all w form = elim (cases_lt c.args.self.now.capacity (length w)) [
  | inl h ↦ h
  | inr h ↦ absurd (returns-in_default-clause-missed g c _
      (each_call_fits c.args.self.now.units _ v _ all (record { whole = w; form = form; within = omega (arith, h) })))
]

pub returns-in_default-clause-capacity : goal.returns-in_default-clause-capacity
returns-in_default-clause-capacity g c v all = returns-in_default-clause-no_smaller g c (none_truncates c.args.calls.now v all)

pub returns-clause-capacity : goal.returns-clause-capacity
returns-clause-capacity g c v all = c.loop-done.invariant.no_smaller (none_truncates c.args.calls.now v all)

pub returns-clause-appends : goal.returns-clause-appends
returns-clause-appends g c v all = grind (arith, take_all, run_appends)

-- the goals from here on are proved without an answer too, but in 15 seconds
pub loop-done-init : goal.loop-done-init
loop-done-init g c = record {
  ran = search rules;
  counted = search rules;
  found = search rules;
  reserved = λ front back n v r e. absurd (omega (arith, ap length e, length-append front (Reserve n ∷ back)));
  no_smaller = search rules;
}

pub returns-in_default-clause-stopped : goal.returns-in_default-clause-stopped
returns-in_default-clause-stopped g c = grind (arith, slice_get_read)
