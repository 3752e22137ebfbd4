-- What a run has come to, and the reply that says it.
-- Assumes nothing.
use Rattle.std.specs.Prelude.{Ok, Err}
use mathlib.Core.Path.{◌≡◌, refl, ap, ◌∙◌, subst}
use Prim.Native.Nat.{ℕ, ◌≤◌}
use mathlib.Core.Bool.{Bool, true, false, cond}
use mathlib.Core.List.{List, []}
use lib.Dec.{eqb}
use lib.ListN.{length}
use borrow.Author.Tests.{eq-eqb, ne_eqb}
use Rattle.model.specs.Limits.{most_blocks}
use Rattle.model.specs.CaseFile.{Line, case_of}
use Rattle.model.specs.Machine.{State, Outcome, refused14, cut_off, violated, clean, first_stray_left, ending, run_blocks}
use Rattle.model.specs.Fill.{put_blocks, put_all_unrun}
use Rattle.model.specs.declared.Refusal.TheVariants.{Stray}
use Rattle.model.specs.declared.Replayed.TheVariants.{Violated, Clean, CutOff}
use Rattle.laws.proofs.Views.{EqView, same, diff, eq_view}
use Rattle.turn.specs.declared.Stand.{Stand}
use Rattle.turn.specs.declared.Stand.TheVariants.{Running, Strayed, Stopped}
use Rattle.turn.specs.TurnState.{items_of, given_by}
use Rattle.run.specs.declared.Thread.{Thread}
use Rattle.run.specs.declared.Shared.{Shared}
use Rattle.run.specs.declared.Ended.{Ended}
use Rattle.run.specs.RunState.{rests_of, state_of}
use Rattle.run.specs.Promises.{resumed, outcome_from, Played, stand_after, looked_at, outcome_of, Replies, AtTheEnd, whole_trace}

module _ (bytes : List ℕ) (threads : List Thread) (shared : Shared) where
  abbrev state : State
  state = state_of bytes threads shared.items

  abbrev Ends : Ended → Type 0
  Ends e = Replies bytes (outcome_of bytes threads shared) e

  -- where nothing has ended the run
  abbrev finished : Outcome
  finished = cond (eqb shared.note 0) (clean state) (violated shared.note state)

  resumes : (stand : Stand) → shared.stand ≡ stand → outcome_of bytes threads shared ≡ resumed stand (items_of bytes shared.items) finished
  resumes stand is = ap (λ (x : Stand). resumed x (items_of bytes shared.items) finished) is

  pub ends_stray : (k : ℕ) → shared.stand ≡ Strayed k → Ends (record { reply = Err (Stray k); items = shared.items })
  ends_stray k is = let o : outcome_of bytes threads shared ≡ refused14 k = resumes (Strayed k) is in rw o (record { reply = refl; left = tt })

  pub ends_cut : (k : ℕ) → shared.stand ≡ Stopped k → Ends (record { reply = Ok (CutOff k); items = shared.items })
  ends_cut k is =
      let o : outcome_of bytes threads shared ≡ cut_off k (items_of bytes shared.items) = resumes (Stopped k) is in
      rw o (record { reply = refl; left = refl })

  pub ends_clean : shared.stand ≡ Running → shared.note ≡ 0 → Ends (record { reply = Ok Clean; items = shared.items })
  ends_clean is zero =
      let o : outcome_of bytes threads shared ≡ clean state = resumes Running is ∙ rw (eq-eqb shared.note 0 zero) in
      rw o (record { reply = refl; left = refl })

  pub ends_violated : shared.stand ≡ Running → (shared.note ≡ 0 → ⊥) → Ends (record { reply = Ok (Violated shared.note); items = shared.items })
  ends_violated is some =
      let o : outcome_of bytes threads shared ≡ violated shared.note state = resumes Running is ∙ rw (ne_eqb shared.note 0 some) in
      rw o (record { reply = refl; left = refl })

  -- no block is left, and the lines that are left have been looked at
  looked : (givens : List ℕ) → outcome_of bytes threads (looked_at (first_stray_left (given_by givens) (rests_of bytes threads)) shared)
      ≡ outcome_from bytes givens 0 [] threads shared
  unfolding run_blocks
  looked givens = go shared.stand (eq_view stray 0)
    where
      stray : ℕ
      stray = first_stray_left (given_by givens) (rests_of bytes threads)

      go : (stand : Stand) → EqView stray 0 → resumed (stand_after stray stand) (items_of bytes shared.items) finished
          ≡ resumed stand (items_of bytes shared.items) (ending (given_by givens) shared.note state)
      go Running (same e q) = rw q
      go Running (diff e q) = rw q
      go (Strayed k) v = refl
      go (Stopped k) v = refl

module _ (bytes givens lengths : List ℕ) (threads : List Thread) (shared : Shared) (trace : List ℕ) (after : List Thread) (moved : Shared)
    (trace' : List ℕ) (played : Played bytes givens lengths threads shared trace after moved trace')
  where
    pub comes : (last : Shared) (e : Ended) → last ≡ looked_at (first_stray_left (given_by givens) (rests_of bytes after)) moved
        → ((bs : List ℕ) (ts : List Thread) → Replies bs (outcome_of bs ts last) e) → Replies bytes (outcome_from bytes givens 0 lengths threads shared) e
    comes last e is_last ended =
        subst (λ (x : Outcome). Replies bytes x e) (ap (outcome_of bytes after) is_last ∙ looked bytes after moved givens ∙ played.comes) (ended bytes after)

    -- The lines that are left have their numbers too.
    pub traced_at_the_end : (whole : List ℕ) → (moved.stand ≡ Running → whole ≡ put_all_unrun (case_of bytes) (rests_of bytes after) trace') → length lengths ≤ most_blocks
        → AtTheEnd (outcome_from bytes givens 0 lengths threads shared) (λ left. whole ≡ whole_trace bytes givens lengths (state_of bytes threads shared.items) trace left)
    unfolding run_blocks
    traced_at_the_end whole put numbered = subst (λ (x : Outcome). AtTheEnd x IsWhole) played.comes (go moved.stand put (played.traced numbered))
      where
        IsWhole : List (List Line) → Type 0
        IsWhole left = whole ≡ whole_trace bytes givens lengths (state_of bytes threads shared.items) trace left

        last : State
        last = state_of bytes after moved.items

        at_ending : (none_left none : Bool) (note k : ℕ) → IsWhole last.rests → AtTheEnd (cond none_left (cond none (clean last) (violated note last)) (refused14 k)) IsWhole
        at_ending true true note k is = is
        at_ending true false note k is = is
        at_ending false none note k is = tt

        go : (stand : Stand) → (stand ≡ Running → whole ≡ put_all_unrun (case_of bytes) (rests_of bytes after) trace') → (stand ≡ Running → trace' ≡ put_blocks (case_of bytes) (given_by givens) 0 lengths (state_of bytes threads shared.items) trace)
            → AtTheEnd (resumed stand (items_of bytes moved.items) (ending (given_by givens) moved.note last)) IsWhole
        go Running left traced =
            at_ending (eqb (first_stray_left (given_by givens) last.rests) 0) (eqb moved.note 0) moved.note (first_stray_left (given_by givens) last.rests)
            (left refl ∙ ap (put_all_unrun (case_of bytes) (rests_of bytes after)) (traced refl))
        go (Strayed k) left traced = tt
        go (Stopped k) left traced = tt
