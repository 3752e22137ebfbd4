-- The one statement. What the calls answer equals the definitions (each call's own theorem, for the calls that answer in the document's
-- numbers and for those that they are made of), and about these same definitions demand 3 holds for every accepted case: so the claim
-- is about the code that is compiled, and it can be read off the numbers that the code hands out. What C and Rust link is `menduvo_c`:
-- each of its functions has the clauses of the one of this name here, calls it and nothing else, and is proved by that crate's check.
-- It is proved in proofs/Delivered.antt.
-- Assumes nothing.
use Rattle.std.specs.Prelude.{◌≡◌, ◌↔◌, ℕ, ◌≤◌, List, length, Ok}
use Rattle.model.specs.Word.{AllBelow}
use Rattle.model.specs.Limits.{most_listing_bytes}
use Rattle.model.specs.Accept.{verdict}
use Rattle.model.specs.Listing.{listing_text, listed}
use Rattle.laws.specs.ForwardWalk.{ForAnyLines}
use Rattle.laws.specs.HandedOn.{ForEveryLine}
use Rattle.laws.specs.Sizes.{Sizes, LargestSizes, NeverTooShort}
use Rattle.correspondence.specs.Demand3.{ForEveryAcceptedCase}
use Rattle.script.specs.Text.{most_text_bytes, smt_text}
use Rattle.script_truth.specs.Filed.{ForEveryText}
use Rattle.accept.proofs.accept.Statement as accept_statement
use Rattle.encoder.proofs.encode.Statement as encode_statement
use Rattle.checker.proofs.check.Statement as check_statement
use Rattle.decoder.proofs.decode.Statement as decode_statement
use Rattle.replayer.proofs.replay.Statement as replay_statement
use Rattle.filler.proofs.fill.Statement as fill_statement
use Rattle.listing_text.proofs.listing_text.Statement as listing_text_statement
use Rattle.smt_text.proofs.smt_length.Statement as smt_length_statement
use Rattle.smt_text.proofs.smt_text.Statement as smt_text_statement
use Rattle.builder.proofs.take_line.Statement as take_line_statement
use Rattle.menduvo.proofs.menduvo_accept.Statement as exported_accept_statement
use Rattle.menduvo.proofs.menduvo_encode.Statement as exported_encode_statement
use Rattle.menduvo.proofs.menduvo_check.Statement as exported_check_statement
use Rattle.menduvo.proofs.menduvo_decode.Statement as exported_decode_statement
use Rattle.menduvo.proofs.menduvo_replay.Statement as exported_replay_statement
use Rattle.menduvo.proofs.menduvo_fill.Statement as exported_fill_statement
use Rattle.menduvo.proofs.menduvo_listing.Statement as exported_listing_statement
use Rattle.menduvo.proofs.menduvo_smt_length.Statement as exported_smt_length_statement
use Rattle.menduvo.proofs.menduvo_smt_text.Statement as exported_smt_text_statement
use Rattle.menduvo.proofs.menduvo_take_line.Statement as exported_take_line_statement
use Rattle.delivered.specs.ReadOff.{AnswersToldApart, SomeYes, SomeViolated}

pub record Delivered (M : Type 1) : Type 2 where
  -- The calls, each with an enum for its answer;
  pub accept : accept_statement.statement M
  pub encode : encode_statement.statement M
  pub check : check_statement.statement M
  pub decode : decode_statement.statement M
  pub replay : replay_statement.statement M
  pub fill : fill_statement.statement M
  pub listing_text_spec : listing_text_statement.statement M
  pub smt_length : smt_length_statement.statement M
  pub smt_text_spec : smt_text_statement.statement M
  pub take_line_lem : take_line_statement.statement M
  -- the calls of the public library, whose answers are numbers;
  pub menduvo_accept : exported_accept_statement.statement M
  pub menduvo_encode : exported_encode_statement.statement M
  pub menduvo_check : exported_check_statement.statement M
  pub menduvo_decode : exported_decode_statement.statement M
  pub menduvo_replay : exported_replay_statement.statement M
  pub menduvo_fill : exported_fill_statement.statement M
  pub menduvo_listing : exported_listing_statement.statement M
  pub menduvo_smt_length : exported_smt_length_statement.statement M
  pub menduvo_smt_text : exported_smt_text_statement.statement M
  pub menduvo_take_line : exported_take_line_statement.statement M
  -- demand 3 over what accept, encode, check, decode, replay and fill answer;
  pub corresponds : ForEveryAcceptedCase
  -- the text that is written, as its own reader reads it: true of an assignment exactly where the checker says yes, and of some exactly
  -- where some run violates;
  pub filed : ForEveryText
  -- the forward walk that finds copies: after any lines of a thread it holds for each name the latest that has it as target, and one
  -- more line is one step more; and the lines of every accepted case, handed on one by one, have the copies of the table;
  pub copies : ForAnyLines
  pub handed_on : ForEveryLine
  -- no accepted case needs more than the largest sizes, and slices of these sizes are never refused with 10;
  pub sizes : (bytes : List ℕ) → verdict bytes ≡ Ok tt → Sizes bytes
  pub largest_sizes : LargestSizes
  pub never_too_short : (bytes : List ℕ) → NeverTooShort bytes
  pub text_at_most : (bytes : List ℕ) → verdict bytes ≡ Ok tt → length (smt_text bytes) ≤ most_text_bytes
  pub listing_never_too_short : (bytes : List ℕ) (room : ℕ) → most_listing_bytes ≤ room → listed bytes room ≡ Ok (length (listing_text bytes))
  -- and the numbers tell the answers apart, so that it can be read off them.
  pub told_apart : AnswersToldApart
  pub corresponds_in_numbers : (bytes : List ℕ) → AllBelow 256 bytes → verdict bytes ≡ Ok tt → SomeYes bytes ↔ SomeViolated bytes
