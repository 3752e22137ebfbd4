-- One line of a walk: its rows are put where it stands in its thread, and it is taken.
-- Assumes nothing.
use mathlib.Core.Path.{◌≡◌, refl, sym, ap, ◌∙◌}
use mathlib.Core.Logic.{◌≢◌}
use Prim.Native.Nat.{ℕ, ◌+◌, ◌*◌, ◌≤◌, ◌<◌}
use mathlib.Core.List.{List, [], ◌∷◌, reverse, reverse-reverse}
use native.Mathlib.Omega.{arith}
use borrow.Author.Tests.{ne_eqb}
use lib.Dec.{eqb}
use lib.ListN.{length}
use Rattle.model.specs.CaseFile.{kind_of, Line, records, record_field, thread_count, switch_count, global_count, next_record, line_of, case_of, lines_of}
use Rattle.model.specs.declared.Kind.{Kind}
use Rattle.model.specs.Line.{guard_name, operand_a, operand_b, target_name}
use Rattle.model.specs.Copies.{copy_of, held_copy, take_line, held_after}
use Rattle.model.specs.Table.{value_row}
use Rattle.model.specs.Taking.{copies_at}
use Rattle.model.specs.declared.Copies.{Copies}
use Rattle.laws.specs.Accepted.{Accepted, lines_from, thread_lines}
use Rattle.laws.specs.RowCounts.{order_row_count, is_first, value_row_count}
use Rattle.laws.proofs.Chains.{threads_are}
use Rattle.laws.proofs.Following.{lines_end, lines_more, next_low}
use Rattle.laws.proofs.Views.{EqView, same, diff, eq_view}
use Rattle.case_file.specs.declared.Record.{Record}
use Rattle.case_file.specs.Records.{record_of, as_line}
use Rattle.laws.proofs.ForwardWalk.{held_more, held_copy_lem}
use Rattle.copies.specs.Held.{HeldAfter}
use Rattle.case_file.specs.declared.Link.{Link}
use Rattle.rows.specs.Rows.{Nearest, PutsOrder, four_of, PutsValues}
use Rattle.encoder.proofs.Walking.{orders, values, Walking, walking_width, walking_room, walking_more}

nearest_line : (bytes : List ℕ) (t k : ℕ) → Accepted bytes → k ≤ records bytes → Nearest k (lines_from bytes t k)
unfolding Nearest
nearest_line bytes t k ok low = go (eq_view k 0)
  where
    go : EqView k 0 → Nearest k (lines_from bytes t k)
    go (same z _) = rw (lines_end bytes t k z) z
    go (diff some _) = rw (lines_more bytes ok t k some low) (record { number = refl; some = some })

no_line_before : (k : ℕ) (earlier : List Line) → Nearest k earlier → eqb k 0 ≡ is_first earlier
unfolding Nearest
no_line_before k [] none = rw none
no_line_before k (l ∷ earlier) near = ne_eqb k 0 near.some

-- There is room for its order rows.
pub order_room :
    (previous : ℕ) (kind : Kind) {bytes : List ℕ} {t k : ℕ} {out : List ℕ} {at : ℕ} {numbers before : List ℕ} {start : ℕ}
    → Walking bytes t (orders (case_of bytes) t) (Nearest previous) k numbers before start out at → Accepted bytes → k ≢ 0 → kind ≡ kind_of (record_field bytes k 1)
    → start + length numbers ≤ length before → at + 6 * order_row_count (eqb previous 0) kind ≤ length out
order_room previous kind v ok some ek h = rw (no_line_before previous v.earlier v.known, ek) (walking_room v ok some h)

-- They are put: it is then the nearest of the earlier lines.
pub order_step :
    {bytes : List ℕ} {t k : ℕ} {link : Link} {T n : ℕ} {out : List ℕ} {at : ℕ} {numbers before : List ℕ} {start : ℕ} {out' : List ℕ} {end : ℕ} → PutsOrder link T n t out at out' end
    → Walking bytes t (orders (case_of bytes) t) (Nearest link.before) k numbers before start out at → Accepted bytes → k ≢ 0 → link.line ≡ k → link.kind ≡ kind_of (record_field bytes k 1)
    → link.next ≡ next_record bytes k → T ≡ thread_count bytes → n ≡ switch_count bytes
    → Walking bytes t (orders (case_of bytes) t) (Nearest link.line) link.next numbers before start out' end
unfolding Nearest
order_step {bytes} {t} {k} {link} puts v ok some line kind next e_t en =
    walking_more v ok some next (record { number = line; some = λ z. some (sym line ∙ z) })
    (puts (case_of bytes) v.earlier (line_of bytes t k) (lines_from bytes t (next_record bytes k)) (record { before = v.known; line = line; kind = kind; next = nearest }) e_t en)
  where
    nearest : Nearest link.next (lines_from bytes t (next_record bytes k))
    nearest = rw next (nearest_line bytes t (next_record bytes k) ok (next_low bytes ok t k some v.low))

-- It is taken, and its 4 and its 5 are put with the copies that it has.
module _ {bytes : List ℕ} {t k : ℕ} {held : List ℕ} {out : List ℕ} {at : ℕ} {numbers before : List ℕ} {start : ℕ}
    (v : Walking bytes t (values (case_of bytes)) (HeldAfter (global_count bytes) held) k numbers before start out at) (ok : Accepted bytes) (some : k ≢ 0)
    {l : Record} (el : l ≡ record_of bytes t k) where
  width : {c : ℕ} → c ≡ value_row_count l.kind → c ≡ value_row_count (kind_of (record_field bytes k 1))
  width ec = rw el at ec

  pub value_room : {c : ℕ} → c ≡ value_row_count l.kind → start + length numbers ≤ length before → at + 6 * c ≤ length out
  value_room ec h = omega (arith, walking_room v ok some h, width ec)

  pub value_step :
      {G c next : ℕ} {out' held' : List ℕ} {copies : Copies} → G ≡ global_count bytes → copies ≡ copies_at G held (as_line l k) → held' ≡ take_line G held (as_line l k)
      → PutsValues l.kind (four_of k copies) out at out' → c ≡ value_row_count l.kind → next ≡ next_record bytes k
      → Walking bytes t (values (case_of bytes)) (HeldAfter (global_count bytes) held') next numbers before start out' (at + 6 * c)
  value_step {G} {held' = held'} {copies} eG ec taken puts ew next =
      walking_more v ok some next after (record { slice = (rw el at puts) (case_of bytes) v.earlier (line_of bytes t k) four; place = omega (arith, width ew, walking_width v ok some) })
    where
      copy : (name : ℕ) → held_copy held name ≡ copy_of (global_count bytes) name v.earlier
      copy name = ap (λ (xs : List ℕ). held_copy xs name) v.known ∙ held_copy_lem (global_count bytes) name v.earlier

      found : copies ≡ copies_at (global_count bytes) held (line_of bytes t k)
      found = rw (el, eG) at ec

      four : four_of k copies ≡ value_row (case_of bytes) v.earlier (line_of bytes t k)
      four =
          let l = line_of bytes t k in
          ap (four_of k) found ∙ rw (copy (guard_name l), copy (operand_a l), copy (operand_b l), copy (target_name (global_count bytes) l))

      after : HeldAfter (global_count bytes) held' (line_of bytes t k ∷ v.earlier)
      after =
          (rw (el, eG) at taken)
          ∙ ap (λ (xs : List ℕ). take_line (global_count bytes) xs (line_of bytes t k)) v.known ∙ sym (held_more (global_count bytes) v.earlier (line_of bytes t k))

-- All lines of thread t have been taken.
pub thread_taken :
    (bytes : List ℕ) (t : ℕ) {held : List ℕ} {earlier : List Line} → t < thread_count bytes → HeldAfter (global_count bytes) held earlier
    → earlier ≡ reverse (thread_lines bytes t) → held ≡ held_after (global_count bytes) (lines_of (case_of bytes) t)
thread_taken bytes t few holds e =
    holds ∙ ap (held_after (global_count bytes)) (ap reverse e ∙ reverse-reverse (thread_lines bytes t) ∙ sym (threads_are bytes t few))
