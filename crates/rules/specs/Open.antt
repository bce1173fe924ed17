-- One name that opens every definition of the rules: a proof by computation says `unfolding rules`.
use Rattle.rules.specs.Base.{flush}
use Rattle.rules.specs.Answer.{◌>>=◌, ◌>>◌, unless, each}
use Rattle.rules.specs.Reel.{word, block_count, first_offset, offsets, is_reel, blocks_of, reel_of}
use Rattle.rules.specs.Reader.{text, number, rest_then, list_of, rest_of}
use Rattle.rules.specs.Deck.{tidy, shape, card_of}
use Rattle.rules.specs.Order.{operands_of}
use Rattle.rules.specs.Halves.{last_byte, others, over, packed, unpacked, field_halves, out_halves, pack_bytes, unpack_bytes, sources}
use Rattle.rules.specs.Grammar.{size_reader, input_reader, mode_reader, format_reader, sizes_reader, rewind_reader, first_reader, parameter, u_operand, start_reader, sized, kind_reader, item, fs_operand}
use Rattle.rules.specs.Words.{worded, u_words, fs_words}
use Rattle.rules.specs.Asked.{cards_of, once, complete, utility_limits, field_limits, limits, asked_of}
use Rattle.rules.specs.Permitted.{reads, allows, choices}
use Rattle.rules.specs.Keeping.{missing, lost_half}
use Rattle.rules.specs.Plan.{assembled, combinations, sound, key_fits, card_fits, inside, inside_part, input_halves, allowed, barren_half, combined, plan_of, sources_of, lost_at, tail_kept, keeps}
use Rattle.rules.specs.Blocks.{word_length, headed_to, least_data, meets, records_in, taken_from}
use Rattle.rules.specs.Output.{permits, selected, out_record, length_word, fits, fits_b, filled_b, converts}
use Rattle.rules.specs.Spanned.{segment_of, coded_word, span_of, segments_in, in_turn, room_of, segmented}
use Rattle.rules.specs.Run.{out_blocks, ran_of, housed, convert, spanned_run, conversion, run_of}
use Rattle.rules.specs.Lent.{plan, plan_into, run}
use Rattle.rules.specs.Twins.{lowest, second, raised, first_twin, second_twin, twins, shows, reason_of, reason, twins_into}
use Rattle.rules.specs.Judge.{plan_to_judge, blocks_read, records_read, our_records, their_records, writes_at, is_written, agrees, judgement, judge_of, judge}

unfoldable pub rules : Unit {0}
unfolding flush ◌>>=◌ ◌>>◌ unless each word block_count first_offset offsets is_reel blocks_of reel_of text number rest_then list_of rest_of tidy shape card_of operands_of last_byte others over packed unpacked field_halves out_halves pack_bytes unpack_bytes sources size_reader input_reader mode_reader format_reader sizes_reader rewind_reader first_reader parameter u_operand start_reader sized kind_reader item fs_operand worded u_words fs_words cards_of once complete utility_limits field_limits limits asked_of reads allows choices missing lost_half assembled combinations sound key_fits card_fits inside inside_part input_halves allowed barren_half combined plan_of sources_of lost_at tail_kept keeps word_length headed_to least_data meets records_in taken_from permits selected out_record length_word fits fits_b filled_b converts segment_of coded_word span_of segments_in in_turn room_of segmented out_blocks ran_of housed convert spanned_run conversion run_of plan plan_into run lowest second raised first_twin second_twin twins shows reason_of reason twins_into plan_to_judge blocks_read records_read our_records their_records writes_at is_written agrees judgement judge_of judge
rules = tt
