-- The one statement holds: it is specs/Delivered.antt. Its term is made of the calls' own theorems and of those about the definitions.
-- Assumes nothing. This is where the other crates lead.
use Rattle.laws.proofs.ForwardWalk.{for_any_lines_lem}
use Rattle.laws.proofs.HandedOn.{every_line_lem}
use Rattle.laws.proofs.Sizes.{sizes, largest_sizes, never_too_short}
use Rattle.correspondence.proofs.Demand3.{demand_3}
use Rattle.listing_text.proofs.Bridge.{never_refused}
use Rattle.script_truth.proofs.Filed.{every_text}
use Rattle.text_size.proofs.Text.{text_at_most}
use Rattle.accept.proofs.accept.Met as accept_met
use Rattle.encoder.proofs.encode.Met as encode_met
use Rattle.checker.proofs.check.Met as check_met
use Rattle.decoder.proofs.decode.Met as decode_met
use Rattle.replayer.proofs.replay.Met as replay_met
use Rattle.filler.proofs.fill.Met as fill_met
use Rattle.listing_text.proofs.listing_text.Met as listing_text_met
use Rattle.smt_text.proofs.smt_length.Met as smt_length_met
use Rattle.smt_text.proofs.smt_text.Met as smt_text_met
use Rattle.builder.proofs.take_line.Met as take_line_met
use Rattle.menduvo.proofs.menduvo_accept.Met as exported_accept_met
use Rattle.menduvo.proofs.menduvo_encode.Met as exported_encode_met
use Rattle.menduvo.proofs.menduvo_check.Met as exported_check_met
use Rattle.menduvo.proofs.menduvo_decode.Met as exported_decode_met
use Rattle.menduvo.proofs.menduvo_replay.Met as exported_replay_met
use Rattle.menduvo.proofs.menduvo_fill.Met as exported_fill_met
use Rattle.menduvo.proofs.menduvo_listing.Met as exported_listing_met
use Rattle.menduvo.proofs.menduvo_smt_length.Met as exported_smt_length_met
use Rattle.menduvo.proofs.menduvo_smt_text.Met as exported_smt_text_met
use Rattle.menduvo.proofs.menduvo_take_line.Met as exported_take_line_met
use Rattle.delivered.proofs.ReadOff.{answers_told_apart, read_off}
use Rattle.delivered.specs.Delivered.{Delivered}

pub delivered : {M : Type 1} → Delivered M
delivered = record {
  accept = accept_met.met;
  encode = encode_met.met;
  check = check_met.met;
  decode = decode_met.met;
  replay = replay_met.met;
  fill = fill_met.met;
  listing_text_spec = listing_text_met.met;
  smt_length = smt_length_met.met;
  smt_text_spec = smt_text_met.met;
  take_line_lem = take_line_met.met;
  menduvo_accept = exported_accept_met.met;
  menduvo_encode = exported_encode_met.met;
  menduvo_check = exported_check_met.met;
  menduvo_decode = exported_decode_met.met;
  menduvo_replay = exported_replay_met.met;
  menduvo_fill = exported_fill_met.met;
  menduvo_listing = exported_listing_met.met;
  menduvo_smt_length = exported_smt_length_met.met;
  menduvo_smt_text = exported_smt_text_met.met;
  menduvo_take_line = exported_take_line_met.met;
  corresponds = demand_3;
  filed = every_text;
  copies = for_any_lines_lem;
  handed_on = every_line_lem;
  sizes = sizes;
  largest_sizes = largest_sizes;
  never_too_short = never_too_short;
  text_at_most = text_at_most;
  listing_never_too_short = never_refused;
  told_apart = answers_told_apart;
  corresponds_in_numbers = λ bytes small accepted. read_off bytes (demand_3 bytes small accepted);
}
