-- A step of the machine as document 01 says it under "Kinds" and "Runs", kind by kind. That the machine's step is this for
-- every line of every thread of an accepted case is proofs/KindByKind.antt.
-- Assumes nothing.
use Rattle.std.specs.Prelude.{◌≡◌, ℕ, suc, ◌+◌, ◌-◌, ◌%◌, Bool, true, false, cond, not, ◌&&◌, eqb, leb, ltb, List, [], ◌∷◌, get_or, set}
use Rattle.model.specs.Word.{nonzero}
use Rattle.model.specs.Limits.{local_count}
use Rattle.model.specs.CaseFile.{Line, Case}
use Rattle.model.specs.declared.Kind.{Kind}
use Rattle.model.specs.declared.Kind.TheVariants.{Compute, Store, Load, Input, Assert, Assume, Lock, Unlock}
use Rattle.model.specs.Line.{apply, value_of, stops, breaks, stray_input}
use Rattle.model.specs.Machine.{Memory, reads_in, stepped}
use Rattle.model.specs.Schedule.{given_in}
use Rattle.model.specs.Runs.{Step, course_of}

-- A local, a global, and a mutex: "globals first, then mutexes".
abbrev pub local_in : Memory → ℕ → ℕ
local_in m x = get_or m.locals x 0

abbrev pub global_in : Memory → ℕ → ℕ
global_in m g = get_or m.items g 0

abbrev pub mutex_in : Case → Memory → ℕ → ℕ
mutex_in case m x = get_or m.items (case.G + x) 0

-- One of them gets a value.
abbrev pub local_gets : ℕ → ℕ → Memory → Memory
local_gets x value m = record { locals = set m.locals x value; items = m.items }

abbrev pub global_gets : ℕ → ℕ → Memory → Memory
global_gets g value m = record { locals = m.locals; items = set m.items g value }

abbrev pub mutex_gets : Case → ℕ → ℕ → Memory → Memory
mutex_gets case x value m = record { locals = m.locals; items = set m.items (case.G + x) value }

-- "Guard 0 is always; 1 to 16 means local (guard − 1) is not zero; 17 to 32 means local (guard − 17) is zero."
abbrev pub guard_holds : Line → Memory → Bool
guard_holds l m =
    cond (eqb l.guard 0) true
    (cond (leb l.guard 16) (nonzero (local_in m (l.guard - 1)))
    (eqb (local_in m (l.guard - 17)) 0))

-- "An operand 0 to 15 is a local, 16 is the constant c."
abbrev pub operand_in : Memory → ℕ → ℕ → ℕ
operand_in m c operand = cond (ltb operand local_count) (local_in m operand) c

-- The expression: its op of its operands.
abbrev pub expression_in : Line → Memory → ℕ
expression_in l m = apply l.op (operand_in m l.c l.a) (operand_in m l.c l.b)

-- "Guard true: compute, store, load, lock and unlock do what Kinds says, an input puts its schedule value in its target, an
-- assert that is zero is noted and changes nothing." Kinds: "compute: local target gets the expression"; "store: global target
-- gets the expression"; "load: local target gets global a"; "lock, unlock: mutex target becomes .. 0". Four: "A lock by thread t now puts
-- t + 1 in the mutex".
abbrev pub done_by_kind : Kind → Case → ℕ → (ℕ → ℕ) → Line → Memory → Memory
done_by_kind Compute case t given l m = local_gets l.target (expression_in l m) m
done_by_kind Store case t given l m = global_gets l.target (expression_in l m) m
done_by_kind Load case t given l m = local_gets l.target (global_in m l.a) m
done_by_kind Input case t given l m = local_gets l.target (given l.number) m
done_by_kind Assert case t given l m = m
done_by_kind Assume case t given l m = m
done_by_kind Lock case t given l m = mutex_gets case l.target (suc t) m
done_by_kind Unlock case t given l m = mutex_gets case l.target 0 m

-- "Guard false: no local, global or mutex changes"
abbrev pub step_by_kind : Case → ℕ → (ℕ → ℕ) → Line → Memory → Memory
step_by_kind case t given l m = cond (guard_holds l m) (done_by_kind l.kind case t given l m) m

-- "But with a true guard, an assume that is zero or a lock whose mutex is not 0 ends the run there"
abbrev pub ends_by_kind : Kind → Case → Line → Memory → Bool
ends_by_kind Compute case l m = false
ends_by_kind Store case l m = false
ends_by_kind Load case l m = false
ends_by_kind Input case l m = false
ends_by_kind Assert case l m = false
ends_by_kind Assume case l m = eqb (expression_in l m) 0
ends_by_kind Lock case l m = nonzero (mutex_in case m l.target)
ends_by_kind Unlock case l m = false

abbrev pub ends_run : Case → Line → Memory → Bool
ends_run case l m = guard_holds l m && ends_by_kind l.kind case l m

-- "Guard true: .. an assert that is zero is noted". Four: "a run line that unlocks with its guard true while the mutex does not read t + 1
-- is a violation"
abbrev pub noted_by_kind : Kind → Case → ℕ → Line → Memory → Bool
noted_by_kind Compute case t l m = false
noted_by_kind Store case t l m = false
noted_by_kind Load case t l m = false
noted_by_kind Input case t l m = false
noted_by_kind Assert case t l m = eqb (expression_in l m) 0
noted_by_kind Assume case t l m = false
noted_by_kind Lock case t l m = false
noted_by_kind Unlock case t l m = not (eqb (mutex_in case m l.target) (suc t))

abbrev pub is_noted : Case → ℕ → Line → Memory → Bool
is_noted case t l m = guard_holds l m && noted_by_kind l.kind case t l m

-- "Guard false: .. an input's schedule value must be 0 (else refusal 14)"
abbrev pub refused_by_kind : Kind → (ℕ → ℕ) → Line → Bool
refused_by_kind Compute given l = false
refused_by_kind Store given l = false
refused_by_kind Load given l = false
refused_by_kind Input given l = nonzero (given l.number)
refused_by_kind Assert given l = false
refused_by_kind Assume given l = false
refused_by_kind Lock given l = false
refused_by_kind Unlock given l = false

abbrev pub is_refused : (ℕ → ℕ) → Line → Memory → Bool
is_refused given l m = not (guard_holds l m) && refused_by_kind l.kind given l

-- What the machine does at a line of thread t in this memory is what the document says.
pub record DoneAsSaid (case : Case) (t : ℕ) (given : ℕ → ℕ) (l : Line) (m : Memory) : Type 0 where
  pub memory : stepped case given l m ≡ step_by_kind case t given l m
  pub end : stops l.kind l (reads_in case given l m) ≡ ends_run case l m
  pub note : breaks true l.kind l (reads_in case given l m) (value_of l (reads_in case given l m)) ≡ is_noted case t l m
  pub refusal : stray_input l.kind l (reads_in case given l m) ≡ is_refused given l m

-- Of every step that a schedule's blocks have: "Block i (0 to n) belongs to thread i modulo T".
abbrev pub EachStep : (Step → Type 0) → List Step → Type 0
EachStep P [] = Unit
EachStep P (s ∷ steps) = P s × EachStep P steps

abbrev pub StepsAsSaid : Case → List ℕ → Type 0
StepsAsSaid case schedule =
    EachStep (λ s. DoneAsSaid case (s.block % case.T) (given_in case schedule) s.line s.memory) (course_of case schedule)
