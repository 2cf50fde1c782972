-- Every public function may give one answer only: its contract is a fact of equations, each of which fixes a part of what it gives back.
use mathlib.Core.Path.{◌≡◌, refl, sym, ◌∙◌}
use prog.Routine.{Callee}
use prog.Wired.{Code}
use contract.Lifetimes.{Lfts}
use denote.Triple.Entry.{Args, Res}
use denote.Triple.Clauses.{Ended, Lasts, at_exit}
use Rattle.entries.specs.Contract.{Function, Contract, valued, Lives, Inputs, Result, Fact, Promises, OneAnswer}
use Rattle.entries.specs.Exported as name
use Rattle.entries.specs.Exported.{Name, entry}
use Rattle.entries.specs.Functions as public
use Rattle.entries.specs.Functions.{Public, the_entry, function}
use Rattle.entries.specs.Views.{view, Permitted}
use Rattle.refusal.proofs.Named.{alike}
use Rattle.entries.proofs.Plain.{two, five}
use Rattle.entries.proofs.Refusals.{one_permitted}
use Rattle.entries.proofs.LaneEntries.{same_numbered}
use Rattle.entries.proofs.FrameEntries.{same_framed}
use Rattle.entries.proofs.Asked.{as_asked}
use Rattle.entries.proofs.Promised.{promised}

equals : {A : Type 0} {x y z : A} → x ≡ z → y ≡ z → x ≡ y
equals e f = e ∙ sym f

-- what is permitted, that the contract says so, and that it fixes the answer
pub record Fixed (f : Function) : Type 2 where
  pub Permits : Fact f
  pub promises : Promises f Permits
  pub one_answer : OneAnswer f Permits

fixed : {f : Function} {Permits : Fact f} → Promises f Permits → OneAnswer f Permits → Fixed f
fixed {Permits = Permits} promises one = record { Permits = Permits; promises = promises; one_answer = one }

-- the result is one value, and nothing is changed
by_value : {T : Ended} {clauses : Contract T} {name : Callee} {code : Code}
    {value : (κs : Lfts T.signature.lifetimes) → Args T.signature κs → Res T.signature κs}
    → Promises (valued T clauses name code) (λ κs a h r s. r ≡ value κs a)
    → ((κs : Lfts T.signature.lifetimes) (a : Args T.signature κs) (v w : Lasts T κs a) → v ≡ w)
    → Fixed (valued T clauses name code)
by_value promises still = fixed promises (λ κs a h r q v w e f. (equals e f, still κs a v w))

-- ---- the entries: two permitted answers are equal (`one_permitted`), and so is what they are a view of
abbrev Seen : Name → Type 0
Seen n =
    let f = function (the_entry n) in
    (κs : Lives f) (a : Inputs f κs) (r q : Result f κs) (v w : Lasts f.ended κs a)
    → (((view n).after κs r (at_exit f.ended κs a v)).0 ≡ ((view n).after κs q (at_exit f.ended κs a w)).0)
    → (((view n).after κs r (at_exit f.ended κs a v)).1 ≡ ((view n).after κs q (at_exit f.ended κs a w)).1)
    → f.alike κs r q × (v ≡ w)

seen : (n : Name) → Seen n
seen name.read_packet κs a r q v w e f = (e, refl)
seen name.data_of κs a r q v w e f = ((λ i. ((e i).block, (e i).at), λ i. (e i).octets), refl)
seen name.look_at κs a r q v w e f = (e, refl)
seen name.walk κs a r q v w e f = (e, refl)
seen name.write_space κs a r q v w e f = (e, λ i. (tt, (tt, (tt, (tt, (tt, (tt, (f i, v.1.1.1.1.1.1.1))))))))
seen name.write_encapsulation κs a r q v w e f = (e, λ i. (tt, (tt, (tt, (tt, (f i, v.1.1.1.1.1))))))
seen name.read_record κs a r q v w e f = (e, refl)
seen name.read_record_file κs a r q v w e f = (e, refl)
seen name.write_record κs a r q v w e f = (e, λ i. (tt, (f i, v.1.1)))
seen name.fresh_start κs a r q v w e f = (f, refl)
seen name.is_sound κs a r q v w e f = (e, refl)
seen name.open_lane κs a r q v w e f = (λ i. record { refusal = e i; state = f i }, refl)
seen name.take_packet κs a r q v w e f = (λ i. record { answer = e i; state = (f i).0 }, λ i. (tt, (tt, (tt, ((f i).1, ((f i).2, v.1.1.1.1.1))))))
seen name.close_lane κs a r q v w e f = (λ i. record { refusal = e i; state = (f i).0 }, λ i. (tt, (tt, (tt, ((f i).1, v.1.1.1.1)))))
seen name.list κs a r q v w e f = (e, λ i. (tt, (f i, v.1.1)))
seen name.list_recording κs a r q v w e f = (e, λ i. (tt, (f i, v.1.1)))
seen name.branmuslin_read_packet κs a r q v w e f = (λ i. (e i).0, λ i. (tt, ((f i).1, ((e i).1, v.1.1.1))))
seen name.branmuslin_write_space κs a r q v w e f = (e, λ i. (tt, (tt, (tt, (tt, (tt, (tt, ((f i).0, ((f i).1, v.1.1.1.1.1.1.1.1)))))))))
seen name.branmuslin_write_encapsulation κs a r q v w e f = (e, λ i. (tt, (tt, (tt, (tt, ((f i).0, ((f i).1, v.1.1.1.1.1.1)))))))
seen name.branmuslin_read_record κs a r q v w e f = (e, λ i. (tt, ((f i).1, v.1.1)))
seen name.branmuslin_read_record_file κs a r q v w e f = (λ i. (e i).0, λ i. (tt, ((f i).1, ((e i).1, v.1.1.1))))
seen name.branmuslin_write_record κs a r q v w e f = (e, λ i. (tt, (tt, (tt, (tt, (tt, (tt, ((f i).0, v.1.1.1.1.1.1.1))))))))
seen name.branmuslin_fresh_start κs a r q v w e f = (f, refl)
seen name.branmuslin_is_sound κs a r q v w e f = (e, refl)
seen name.branmuslin_open_lane κs a r q v w e f = (λ i. record { refusal = e i; state = f i }, refl)
seen name.branmuslin_take_packet κs a r q v w e f = (same_numbered r q e (λ i. (f i).0), λ i. (tt, (tt, (tt, ((f i).1, ((f i).2, v.1.1.1.1.1))))))
seen name.branmuslin_close_lane κs a r q v w e f = (λ i. record { refusal = e i; state = (f i).0 }, λ i. (tt, (tt, (tt, ((f i).1, v.1.1.1.1)))))
seen name.branmuslin_fresh_frames κs a r q v w e f = (f, refl)
seen name.branmuslin_take_frame κs a r q v w e f = (same_framed r q e (λ i. (f i).0), λ i. (tt, (tt, (tt, (tt, ((f i).1, ((f i).2, v.1.1.1.1.1.1)))))))

of_entry : (n : Name) → OneAnswer (function (the_entry n)) (Permitted n)
of_entry n κs a h r q v w e f =
    let same = one_permitted (entry n) (as_asked n) ((view n).given κs a h) _ _ _ _ e f in
    seen n κs a r q v w same.0 same.1

-- ---- all
pub one_answers : (p : Public) → Fixed (function p)
one_answers (the_entry n) = fixed (promised n) (of_entry n)
one_answers public.octet_at = by_value (λ κs a h M 𝓤 𝓛 mem run. refl) (λ κs a v w. refl)
one_answers public.be16_at = by_value (λ κs a h M 𝓤 𝓛 mem run. refl) (λ κs a v w. refl)
one_answers public.be32_at = by_value (λ κs a h M 𝓤 𝓛 mem run. refl) (λ κs a v w. refl)
one_answers public.put_octets = fixed (λ κs a h M 𝓤 𝓛 mem run. refl) (λ κs a h r q v w e f. (refl, λ i. (equals e f i, v.1)))
one_answers public.put_octet = fixed (λ κs a h M 𝓤 𝓛 mem run. refl) (λ κs a h r q v w e f. (refl, λ i. (equals e f i, v.1)))
one_answers public.put_be16 = fixed (λ κs a h M 𝓤 𝓛 mem run. refl) (λ κs a h r q v w e f. (refl, λ i. (equals e f i, v.1)))
one_answers public.put_be32 = fixed (λ κs a h M 𝓤 𝓛 mem run. refl) (λ κs a h r q v w e f. (refl, λ i. (equals e f i, v.1)))
one_answers public.header_of = by_value (λ κs a h M 𝓤 𝓛 mem run. refl) (λ κs a v w. refl)
one_answers public.size_of = by_value (λ κs a h M 𝓤 𝓛 mem run. refl) (λ κs a v w. refl)
one_answers public.sizes_in = by_value (λ κs a h M 𝓤 𝓛 mem run. refl) (λ κs a v w. refl)
one_answers public.judge_joined = by_value (λ κs a h M 𝓤 𝓛 mem run. refl) (λ κs a v w. refl)
one_answers public.read_on = by_value (λ κs a h M 𝓤 𝓛 mem run. refl) (λ κs a v w. refl)
one_answers public.is_possible = by_value (λ κs a h M 𝓤 𝓛 mem run. refl) (λ κs a v w. refl)
one_answers public.front_record = by_value (λ κs a h M 𝓤 𝓛 mem run. refl) (λ κs a v w. refl)
one_answers public.blocks_for = by_value (λ κs a h M 𝓤 𝓛 mem run. refl) (λ κs a v w. refl)
one_answers public.find_from = by_value (λ κs a h M 𝓤 𝓛 mem run. refl) (λ κs a v w. refl)
one_answers public.grant_blocks = by_value (λ κs a h M 𝓤 𝓛 mem run. refl) (λ κs a v w. refl)
one_answers public.free_blocks = by_value (λ κs a h M 𝓤 𝓛 mem run. refl) (λ κs a v w. refl)
one_answers public.marks_match = by_value (λ κs a h M 𝓤 𝓛 mem run. refl) (λ κs a v w. refl)
one_answers public.store_octets = fixed (λ κs a h M 𝓤 𝓛 mem run. refl) (λ κs a h r q v w e f. (refl, λ i. (tt, (tt, (equals e f i, v.1.1.1)))))
one_answers public.gather_octets =
    fixed (λ κs a h M 𝓤 𝓛 mem run. two 𝓤)
    (λ κs a h r q v w e f. (equals e.0 f.0, λ i. (tt, (tt, (tt, (tt, (equals e.1 f.1 i, v.1.1.1.1.1)))))))
one_answers public.need_of = fixed (λ κs a h M 𝓤 𝓛 mem run. two 𝓤) (λ κs a h r q v w e f. (equals e.0 f.0, refl))
one_answers public.is_illegal = by_value (λ κs a h M 𝓤 𝓛 mem run. refl) (λ κs a v w. refl)
one_answers public.is_fine = by_value (λ κs a h M 𝓤 𝓛 mem run. refl) (λ κs a v w. refl)
one_answers public.plan_packet = by_value (λ κs a h M 𝓤 𝓛 mem run. refl) (λ κs a v w. refl)
one_answers public.is_within = by_value (λ κs a h M 𝓤 𝓛 mem run. refl) (λ κs a v w. refl)
one_answers public.is_unsound = by_value (λ κs a h M 𝓤 𝓛 mem run. refl) (λ κs a v w. refl)
one_answers public.put = fixed (λ κs a h M 𝓤 𝓛 mem run. two 𝓤) (λ κs a h r q v w e f. (equals e.0 f.0, λ i. (equals e.1 f.1 i, v.1)))
one_answers public.put_decimal = fixed (λ κs a h M 𝓤 𝓛 mem run. two 𝓤) (λ κs a h r q v w e f. (equals e.0 f.0, λ i. (equals e.1 f.1 i, v.1)))
one_answers public.put_numbers = fixed (λ κs a h M 𝓤 𝓛 mem run. two 𝓤) (λ κs a h r q v w e f. (equals e.0 f.0, λ i. (equals e.1 f.1 i, v.1)))
one_answers public.written = fixed (λ κs a h M 𝓤 𝓛 mem run. two 𝓤) (λ κs a h r q v w e f. ((equals e.1 f.1, equals e.0 f.0), refl))
one_answers public.is_ready = by_value (λ κs a h M 𝓤 𝓛 mem run. refl) (λ κs a v w. refl)
one_answers public.put_line = fixed (λ κs a h M 𝓤 𝓛 mem run. two 𝓤) (λ κs a h r q v w e f. (equals e.0 f.0, λ i. (equals e.1 f.1 i, v.1)))
one_answers public.put_bad = fixed (λ κs a h M 𝓤 𝓛 mem run. two 𝓤) (λ κs a h r q v w e f. (equals e.0 f.0, λ i. (equals e.1 f.1 i, v.1)))
one_answers public.put_last = fixed (λ κs a h M 𝓤 𝓛 mem run. two 𝓤) (λ κs a h r q v w e f. (equals e.0 f.0, λ i. (equals e.1 f.1 i, v.1)))
one_answers public.adler32 = by_value (λ κs a h M 𝓤 𝓛 mem run. refl) (λ κs a v w. refl)
one_answers public.begin = by_value (λ κs a h M 𝓤 𝓛 mem run. refl) (λ κs a v w. refl)
one_answers public.call_in = by_value (λ κs a h M 𝓤 𝓛 mem run. refl) (λ κs a v w. refl)
one_answers public.replay_some =
    fixed (λ κs a h M 𝓤 𝓛 mem run. five 𝓤)
    (λ κs a h r q v w e f. (
      equals e.0 f.0,
      λ i. (tt, (tt, (equals e.1.0 f.1.0 i, (equals e.1.1.0 f.1.1.0 i, (equals e.1.1.1.0 f.1.1.1.0 i, v.1.1.1.1.1))))),
    ))
one_answers public.tell_next =
    fixed (λ κs a h M 𝓤 𝓛 mem run. five 𝓤)
    (λ κs a h r q v w e f. (
      equals e.0 f.0,
      λ i. (tt, (tt, (equals e.1.0 f.1.0 i, (equals e.1.1.0 f.1.1.0 i, (equals e.1.1.1.0 f.1.1.1.0 i, v.1.1.1.1.1))))),
    ))
one_answers public.u8_from_refusal = by_value (λ κs a h M 𝓤 𝓛 mem run. refl) (λ κs a v w. refl)
one_answers public.refusal_from_file_fault = fixed (λ κs a h M 𝓤 𝓛 mem run. refl) (λ κs a h r q v w e f. (alike r q (equals e f), refl))
one_answers public.refused_from_unread = by_value (λ κs a h M 𝓤 𝓛 mem run. refl) (λ κs a v w. refl)
one_answers public.refused_from_refusal = by_value (λ κs a h M 𝓤 𝓛 mem run. refl) (λ κs a v w. refl)
one_answers public.answer_from_step = by_value (λ κs a h M 𝓤 𝓛 mem run. refl) (λ κs a v w. refl)
one_answers public.numbered_from_answered = by_value (λ κs a h M 𝓤 𝓛 mem run. refl) (λ κs a v w. refl)
