-- How what each entry is given, answers and leaves stands in the code: so that its promise is a fact of the code's contract.
use Rattle.std.specs.Prelude.{List}
use mir.Val.{Val}
use denote.Laws.{Is}
use denote.Triple.Clauses.{AtExit}
use Rattle.state.specs.contracts.State as StateType
use Rattle.state.specs.declared.State.{State}
use Rattle.state.specs.Clauses.{Shaped}
use Rattle.entries.specs.Contract.{Function, Lives, Inputs, Result, OfTypes, Fact}
use Rattle.entries.specs.Functions.{the_entry, function}
use Rattle.entries.specs.Entry.{Entry, Permits}
use Rattle.entries.specs.Entries.{open_lane_entry, take_packet_entry, close_lane_entry, told_framed}
use Rattle.entries.specs.Exported as name
use Rattle.entries.specs.Exported.{told_numbered, Name, entry}

-- how what an entry is given, and what it answers and leaves, stands in the code: in the inputs; and in the result and behind the references at the end
pub record View (f : Function) (e : Entry) : Type 0 where
  pub given : (κs : Lives f) (a : Inputs f κs) → OfTypes f κs a → e.Given
  pub after : (κs : Lives f) → Result f κs → AtExit f.ended κs → e.Answer × e.Lent

-- a state has eight lanes and 64 marks, as the lengths of its arrays say
pub shaped : (s : State) (vs : List Val) → Is StateType.the_row s vs → Shaped s
shaped s vs h = (h.1.1.0.1.0.1, h.1.1.1.0.1.0.1)

-- the calls of a lane, which are given the same in Rattle and in C
abbrev view_of_opening : View (function (the_entry name.open_lane)) open_lane_entry
view_of_opening = record {
  given = λ κs (s, (lane, (settings, (pool, e)))) h. record { state = s; lane = lane; settings = settings; pool = pool.now };
  after = λ κs r s. (r.refusal, r.state);
}

abbrev view_of_taking : View (function (the_entry name.take_packet)) take_packet_entry
view_of_taking = record {
  given = λ κs (s, (lane, (octets, (pool, (out, e))))) h.
      record { state = s; shaped = shaped s h.0.0 h.1.0; lane = lane; packet = octets.now; pool = pool.now; out = out.now };
  after = λ κs r (s, (lane, (octets, (pool, (out, e))))). (r.answer, (r.state, pool.now, out.now));
}

abbrev view_of_closing : View (function (the_entry name.close_lane)) close_lane_entry
view_of_closing = record {
  given = λ κs (s, (lane, (pool, (out, e)))) h. record { state = s; lane = lane; pool = pool.now; out = out.now };
  after = λ κs r (s, (lane, (pool, (out, e)))). (r.refusal, (r.state, out.now));
}

abbrev pub view : (n : Name) → View (function (the_entry n)) (entry n)
view name.read_packet = record { given = λ κs (s, e) h. s.now; after = λ κs r s. (r, tt) }
view name.data_of = record {
  given = λ κs (s, e) h. record { block = s.ref_ptr.0; at = s.ref_ptr.1; octets = s.now };
  after = λ κs r s. (record { block = r.ref_ptr.0; at = r.ref_ptr.1; octets = r.now }, tt);
}
view name.look_at = record { given = λ κs (s, (at, e)) h. record { octets = s.now; at = at }; after = λ κs r s. (r, tt) }
view name.walk = record { given = λ κs (s, e) h. s.now; after = λ κs r s. (r, tt) }
view name.write_space = record {
  given = λ κs (packet_type, (secondary, (apid, (flags, (count, (field, (out, e))))))) h.
      record { packet_type = packet_type; secondary = secondary; apid = apid; flags = flags; count = count; field = field.now; out = out.now };
  after = λ κs r (packet_type, (secondary, (apid, (flags, (count, (field, (out, e))))))). (r, out.now);
}
view name.write_encapsulation = record {
  given = λ κs (protocol, (user, (extension, (content, (out, e))))) h. record { protocol = protocol; user = user; extension = extension; content = content.now; out = out.now };
  after = λ κs r (protocol, (user, (extension, (content, (out, e))))). (r, out.now);
}
view name.read_record = record { given = λ κs (s, e) h. s.now; after = λ κs r s. (r, tt) }
view name.read_record_file = record { given = λ κs (s, e) h. s.now; after = λ κs r s. (r, tt) }
view name.write_record = record { given = λ κs (credit, (out, e)) h. record { credit = credit; out = out.now }; after = λ κs r (credit, (out, e)). (r, out.now) }
view name.fresh_start = record { given = λ κs a h. tt; after = λ κs r s. (tt, r) }
view name.is_sound = record { given = λ κs (s, e) h. s; after = λ κs r s. (r, tt) }
view name.open_lane = view_of_opening
view name.take_packet = view_of_taking
view name.close_lane = view_of_closing
view name.list = record { given = λ κs (s, (out, e)) h. record { octets = s.now; out = out.now }; after = λ κs r (s, (out, e)). (r, out.now) }
view name.list_recording = record { given = λ κs (s, (out, e)) h. record { octets = s.now; out = out.now }; after = λ κs r (s, (out, e)). (r, out.now) }
view name.branmuslin_read_packet = record {
  given = λ κs (octets, (numbers, (place, e))) h. ((octets.now, numbers.now), place.now);
  after = λ κs r (octets, (numbers, (place, e))). ((r, place.now), (tt, numbers.now));
}
view name.branmuslin_write_space = record {
  given = λ κs (packet_type, (secondary, (apid, (flags, (count, (field, (out, (written, e)))))))) h.
      (record { packet_type = packet_type; secondary = secondary; apid = apid; flags = flags; count = count; field = field.now; out = out.now }, written.now);
  after = λ κs r (packet_type, (secondary, (apid, (flags, (count, (field, (out, (written, e)))))))). (r, (out.now, written.now));
}
view name.branmuslin_write_encapsulation = record {
  given = λ κs (protocol, (user, (extension, (content, (out, (written, e)))))) h.
      (record { protocol = protocol; user = user; extension = extension; content = content.now; out = out.now }, written.now);
  after = λ κs r (protocol, (user, (extension, (content, (out, (written, e)))))). (r, (out.now, written.now));
}
view name.branmuslin_read_record = record { given = λ κs (octets, (numbers, e)) h. (octets.now, numbers.now); after = λ κs r (octets, (numbers, e)). (r, (tt, numbers.now)) }
view name.branmuslin_read_record_file = record {
  given = λ κs (octets, (records, (index, e))) h. ((octets.now, records.now), index.now);
  after = λ κs r (octets, (records, (index, e))). ((r, index.now), (tt, records.now));
}
view name.branmuslin_write_record = record {
  given = λ κs (station, (apid, (units, (packets, (missing, (broken, (out, e))))))) h.
      (record { credit = record { station = station; apid = apid; units = units; packets = packets; missing = missing; broken = broken }; out = out.now }, tt);
  after = λ κs r (station, (apid, (units, (packets, (missing, (broken, (out, e))))))). (r, (out.now, tt));
}
view name.branmuslin_fresh_start = record { given = λ κs a h. tt; after = λ κs r s. (tt, r) }
view name.branmuslin_is_sound = record { given = λ κs (s, e) h. s; after = λ κs r s. (r, tt) }
view name.branmuslin_open_lane = record { given = view_of_opening.given; after = view_of_opening.after }
view name.branmuslin_take_packet = record {
  given = view_of_taking.given;
  after = λ κs r (s, (lane, (octets, (pool, (out, e))))). (told_numbered r, (r.state, pool.now, out.now));
}
view name.branmuslin_close_lane = record { given = view_of_closing.given; after = view_of_closing.after }
view name.branmuslin_fresh_frames = record { given = λ κs a h. tt; after = λ κs r s. (tt, r) }
view name.branmuslin_take_frame = record {
  given = λ κs (state, (count, (pointer, (field, (piece, (out, e)))))) h.
      record { state = state; count = count; pointer = pointer; field = field.now; piece = piece.now; out = out.now };
  after = λ κs r (state, (count, (pointer, (field, (piece, (out, e)))))). (told_framed r, (r.state, piece.now, out.now));
}

-- what an entry's promise permits, in the code's words
abbrev pub Permitted : (n : Name) → Fact (function (the_entry n))
Permitted n κs a h r s = Permits (entry n) ((view n).given κs a h) ((view n).after κs r s).0 ((view n).after κs r s).1
