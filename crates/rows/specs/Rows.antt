-- What the functions of this crate make and put: the rows of `model`'s table for one line. They are not handed the line's thread,
-- so their contracts are for every case, and every place in a thread, that fits what they are handed.
-- Assumes nothing.
use Rattle.std.specs.Prelude.{◌≡◌, ◌≢◌, ℕ, cond, List, [], ◌∷◌, eqb}
use Rattle.model.specs.CaseFile.{Line, Case, kind_of}
use Rattle.model.specs.declared.Kind.{Kind}
use Rattle.model.specs.Table.{Row, row, follow_row, line_order_rows, value_row, demand_rows, numbers_of}
use Rattle.laws.specs.RowCounts.{has_eight}
use Rattle.laws.specs.Written.{numbers_at, Put}
use Rattle.rows.specs.declared.Constraint.{Constraint}
use Rattle.case_file.specs.declared.Link.{Link}
use Rattle.model.specs.declared.Copies.{Copies}

-- A constraint as the code holds it.
abbrev pub as_row : Constraint → Row
as_row w = record { kind = w.kind; one = w.one; two = w.two; three = w.three; four = w.four; five = w.five }

-- Which line these lines begin with, by its number, which is not 0; 0 where there is none.
pub record IsLine (k : ℕ) (l : Line) : Type 0 where
  pub number : k ≡ l.number
  pub some : k ≢ 0

unfoldable pub Nearest : ℕ → List Line → Type 0
Nearest k [] = k ≡ 0
Nearest k (l ∷ ls) = IsLine k l

-- A line stands after these earlier lines, latest first, and before these.
pub record Stands (link : Link) (earlier : List Line) (l : Line) (ls : List Line) : Type 0 where
  pub before : Nearest link.before earlier
  pub line : link.line ≡ l.number
  pub kind : link.kind ≡ l.kind
  pub next : Nearest link.next ls

-- Its 8, where it has one.
abbrev pub eight_of : Link → List Row
eight_of link = cond (has_eight (eqb link.before 0) link.kind) (row 8 link.line link.before 0 0 0 ∷ []) []

-- Its last order row, where n is the last block.
abbrev pub Follows : Link → ℕ → Row → Type 0
Follows link n w =
    (case : Case) (earlier : List Line) (l : Line) (ls : List Line) → Stands link earlier l ls → n ≡ case.n → w ≡ follow_row case l ls

-- Its order rows, in a slice from a place on: the slice before and after, and the place after them.
abbrev pub PutsOrder : Link → ℕ → ℕ → ℕ → List ℕ → ℕ → List ℕ → ℕ → Type 0
PutsOrder link T n t slice at after end =
    (case : Case) (earlier : List Line) (l : Line) (ls : List Line) → Stands link earlier l ls → T ≡ case.T → n ≡ case.n
    → Put (numbers_of (line_order_rows case t earlier l ls)) slice at after end

-- The 4 of line k with these copies.
abbrev pub four_of : ℕ → Copies → Row
four_of k copies = row 4 k copies.guard copies.a copies.b copies.target

-- The 5 of a line with this 4.
abbrev pub PutsDemand : Kind → Row → List ℕ → ℕ → List ℕ → Type 0
PutsDemand kind w slice at after =
    (case : Case) (earlier : List Line) (l : Line) → w ≡ value_row case earlier l → after ≡ numbers_at slice at (numbers_of (demand_rows kind case earlier l))

-- Both.
abbrev pub PutsValues : Kind → Row → List ℕ → ℕ → List ℕ → Type 0
PutsValues kind w slice at after =
    (case : Case) (earlier : List Line) (l : Line) → w ≡ value_row case earlier l
    → after ≡ numbers_at slice at (numbers_of (value_row case earlier l ∷ demand_rows kind case earlier l))
