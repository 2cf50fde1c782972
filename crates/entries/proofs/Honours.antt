-- Every public function's code meets its contract: the crates' own theorems, under one statement.
use seplogic.Ra.Ura.{Ura}
use prog.Model.{Model}
use prog.Wired.{Wired}
use types.Logic.{Logic}
use contract.Running.{Running}
use denote.Triple.Clauses.{closing}
use denote.Triple.Spec.{Meets}
use Rattle.reading.proofs.read_packet.Met as ReadPacket
use Rattle.walk.proofs.look_at.Met as LookAt
use Rattle.writing.proofs.write_space.Met as WriteSpace
use Rattle.writing.proofs.write_encapsulation.Met as WriteEncapsulation
use Rattle.record.proofs.read_record.Met as ReadRecord
use Rattle.record.proofs.read_record_file.Met as ReadRecordFile
use Rattle.record.proofs.write_record.Met as WriteRecord
use Rattle.intake.proofs.open_lane.Met as OpenLane
use Rattle.intake.proofs.take_packet.Met as TakePacket
use Rattle.intake.proofs.close_lane.Met as CloseLane
use Rattle.branmuslin.proofs.branmuslin_read_packet.Met as BranmuslinReadPacket
use Rattle.branmuslin.proofs.branmuslin_write_space.Met as BranmuslinWriteSpace
use Rattle.branmuslin.proofs.branmuslin_write_encapsulation.Met as BranmuslinWriteEncapsulation
use Rattle.branmuslin.proofs.branmuslin_read_record.Met as BranmuslinReadRecord
use Rattle.branmuslin.proofs.branmuslin_read_record_file.Met as BranmuslinReadRecordFile
use Rattle.branmuslin.proofs.branmuslin_write_record.Met as BranmuslinWriteRecord
use Rattle.lanes.proofs.branmuslin_open_lane.Met as BranmuslinOpenLane
use Rattle.lanes.proofs.branmuslin_take_packet.Met as BranmuslinTakePacket
use Rattle.lanes.proofs.branmuslin_close_lane.Met as BranmuslinCloseLane
use Rattle.frames.proofs.branmuslin_fresh_frames.Met as BranmuslinFreshFrames
use Rattle.frames.proofs.branmuslin_take_frame.Met as BranmuslinTakeFrame
use Rattle.octets.proofs.octet_at.Met as OctetAt
use Rattle.octets.proofs.be16_at.Met as be16At
use Rattle.octets.proofs.be32_at.Met as be32At
use Rattle.putting.proofs.put_octets.Met as PutOctets
use Rattle.putting.proofs.put_octet.Met as PutOctet
use Rattle.putting.proofs.put_be16.Met as PutBe16
use Rattle.putting.proofs.put_be32.Met as PutBe32
use Rattle.packet.proofs.header_of.Met as HeaderOf
use Rattle.packet.proofs.size_of.Met as SizeOf
use Rattle.reading.proofs.data_of.Met as DataOf
use Rattle.walk.proofs.walk.Met as WalkAll
use Rattle.reading.proofs.sizes_in.Met as SizesIn
use Rattle.pieces.proofs.judge_joined.Met as JudgeJoined
use Rattle.pieces.proofs.read_on.Met as ReadOn
use Rattle.record.proofs.is_possible.Met as IsPossible
use Rattle.record.proofs.front_record.Met as FrontRecord
use Rattle.marks.proofs.blocks_for.Met as BlocksFor
use Rattle.marks.proofs.find_from.Met as FindFrom
use Rattle.marks.proofs.grant_blocks.Met as GrantBlocks
use Rattle.marks.proofs.free_blocks.Met as FreeBlocks
use Rattle.marks.proofs.marks_match.Met as MarksMatch
use Rattle.pool.proofs.store_octets.Met as StoreOctets
use Rattle.pool.proofs.gather_octets.Met as GatherOctets
use Rattle.lane.proofs.need_of.Met as NeedOf
use Rattle.lane.proofs.is_illegal.Met as IsIllegal
use Rattle.lane.proofs.is_fine.Met as IsFine
use Rattle.grouping.proofs.plan_packet.Met as PlanPacket
use Rattle.state.proofs.fresh_start.Met as FreshStart
use Rattle.state.proofs.is_within.Met as IsWithin
use Rattle.state.proofs.is_sound.Met as IsSound
use Rattle.state.proofs.is_unsound.Met as IsUnsound
use Rattle.lanes.proofs.branmuslin_fresh_start.Met as BranmuslinFreshStart
use Rattle.lanes.proofs.branmuslin_is_sound.Met as BranmuslinIsSound
use Rattle.text.proofs.put.Met as PutText
use Rattle.text.proofs.put_decimal.Met as PutDecimal
use Rattle.text.proofs.put_numbers.Met as PutNumbers
use Rattle.listing.proofs.list.Met as ListAll
use Rattle.listing.proofs.list_recording.Met as ListRecording
use Rattle.listing.proofs.written.Met as WrittenPart
use Rattle.adler.proofs.adler32.Met as AdlerOf
use Rattle.telling.proofs.is_ready.Met as IsReady
use Rattle.telling.proofs.put_line.Met as PutLine
use Rattle.telling.proofs.put_bad.Met as PutBad
use Rattle.telling.proofs.put_last.Met as PutLast
use Rattle.runfile.proofs.begin.Met as BeginRun
use Rattle.runfile.proofs.call_in.Met as CallIn
use Rattle.replaying.proofs.replay_some.Met as ReplaySome
use Rattle.deframing.proofs.tell_next.Met as TellNext
use Rattle.refusal.proofs.U8FromRefusal.from.Met as U8FromRefusal
use Rattle.record.proofs.RefusalFromFileFault.from.Met as RefusalFromFileFault
use Rattle.grouping.proofs.RefusedFromUnread.from.Met as RefusedFromUnread
use Rattle.grouping.proofs.RefusedFromRefusal.from.Met as RefusedFromRefusal
use Rattle.intake.proofs.AnswerFromStep.from.Met as AnswerFromStep
use Rattle.lanes.proofs.NumberedFromAnswered.from.Met as NumberedFromAnswered
use Rattle.entries.specs.Contract.{Function}
use Rattle.entries.specs.Exported as name
use Rattle.entries.specs.Exported.{Name}
use Rattle.entries.specs.Functions as public
use Rattle.entries.specs.Functions.{Public, the_entry, function}

-- where names mean its code, that meets the contract
abbrev pub Honours : Function → Type 2
Honours f =
    (M : Type 1) (𝓤 : Ura M) (𝓛 : Logic 𝓤) (𝓜 : Model 𝓤 𝓛.H) (𝓡 : Running 𝓤 𝓛.H 𝓜) → Wired 𝓡.env f.code
    → Meets 𝓛 f.ended.signature (𝓡.run (𝓡.env f.name)) (closing 𝓛 f.ended (f.clauses M 𝓤 𝓛 𝓜.mem 𝓡.returns))

of_entry : (n : Name) → Honours (function (the_entry n))
of_entry name.read_packet M = ReadPacket.met
of_entry name.data_of M = DataOf.met
of_entry name.look_at M = LookAt.met
of_entry name.walk M = WalkAll.met
of_entry name.write_space M = WriteSpace.met
of_entry name.write_encapsulation M = WriteEncapsulation.met
of_entry name.read_record M = ReadRecord.met
of_entry name.read_record_file M = ReadRecordFile.met
of_entry name.write_record M = WriteRecord.met
of_entry name.fresh_start M = FreshStart.met
of_entry name.is_sound M = IsSound.met
of_entry name.open_lane M = OpenLane.met
of_entry name.take_packet M = TakePacket.met
of_entry name.close_lane M = CloseLane.met
of_entry name.list M = ListAll.met
of_entry name.list_recording M = ListRecording.met
of_entry name.branmuslin_read_packet M = BranmuslinReadPacket.met
of_entry name.branmuslin_write_space M = BranmuslinWriteSpace.met
of_entry name.branmuslin_write_encapsulation M = BranmuslinWriteEncapsulation.met
of_entry name.branmuslin_read_record M = BranmuslinReadRecord.met
of_entry name.branmuslin_read_record_file M = BranmuslinReadRecordFile.met
of_entry name.branmuslin_write_record M = BranmuslinWriteRecord.met
of_entry name.branmuslin_fresh_start M = BranmuslinFreshStart.met
of_entry name.branmuslin_is_sound M = BranmuslinIsSound.met
of_entry name.branmuslin_open_lane M = BranmuslinOpenLane.met
of_entry name.branmuslin_take_packet M = BranmuslinTakePacket.met
of_entry name.branmuslin_close_lane M = BranmuslinCloseLane.met
of_entry name.branmuslin_fresh_frames M = BranmuslinFreshFrames.met
of_entry name.branmuslin_take_frame M = BranmuslinTakeFrame.met

pub honours : (p : Public) → Honours (function p)
honours (the_entry n) M = of_entry n M
honours public.octet_at M = OctetAt.met
honours public.be16_at M = be16At.met
honours public.be32_at M = be32At.met
honours public.put_octets M = PutOctets.met
honours public.put_octet M = PutOctet.met
honours public.put_be16 M = PutBe16.met
honours public.put_be32 M = PutBe32.met
honours public.header_of M = HeaderOf.met
honours public.size_of M = SizeOf.met
honours public.sizes_in M = SizesIn.met
honours public.judge_joined M = JudgeJoined.met
honours public.read_on M = ReadOn.met
honours public.is_possible M = IsPossible.met
honours public.front_record M = FrontRecord.met
honours public.blocks_for M = BlocksFor.met
honours public.find_from M = FindFrom.met
honours public.grant_blocks M = GrantBlocks.met
honours public.free_blocks M = FreeBlocks.met
honours public.marks_match M = MarksMatch.met
honours public.store_octets M = StoreOctets.met
honours public.gather_octets M = GatherOctets.met
honours public.need_of M = NeedOf.met
honours public.is_illegal M = IsIllegal.met
honours public.is_fine M = IsFine.met
honours public.plan_packet M = PlanPacket.met
honours public.is_within M = IsWithin.met
honours public.is_unsound M = IsUnsound.met
honours public.put M = PutText.met
honours public.put_decimal M = PutDecimal.met
honours public.put_numbers M = PutNumbers.met
honours public.written M = WrittenPart.met
honours public.is_ready M = IsReady.met
honours public.put_line M = PutLine.met
honours public.put_bad M = PutBad.met
honours public.put_last M = PutLast.met
honours public.adler32 M = AdlerOf.met
honours public.begin M = BeginRun.met
honours public.call_in M = CallIn.met
honours public.replay_some M = ReplaySome.met
honours public.tell_next M = TellNext.met
honours public.u8_from_refusal M = U8FromRefusal.met
honours public.refusal_from_file_fault M = RefusalFromFileFault.met
honours public.refused_from_unread M = RefusedFromUnread.met
honours public.refused_from_refusal M = RefusedFromRefusal.met
honours public.answer_from_step M = AnswerFromStep.met
honours public.numbered_from_answered M = NumberedFromAnswered.met
