-- At each exit the tests before it failed, and the order gives the number.
use Rattle.std.proofs.Common.{ℕ, ◌≡◌, ◌+◌, ◌≤◌, arith}
use borrow.Author.Tests.{lt-ltb, le-ltb}
use Rattle.packet.specs.Encapsulation.{limit}
use Rattle.writing.specs.Encapsulation.{shortest, encap_told}
use Rattle.writing.proofs.Header.{shortest_fits, some}
use Rattle.writing.proofs.encapsulation.EncapsulationFields.check.Goals as goal

small : (h p u n : ℕ) → h ≡ shortest p u n → (1 ≤ h) × (h ≤ 8)
small h p u n e = rw e (some (shortest_fits p u n))

pub returns-then-self : goal.returns-then-self
unfolding encap_told
returns-then-self c = simp c.if-self.true

pub returns-then-self-2 : goal.returns-then-self-2
unfolding encap_told
returns-then-self-2 c = simp (c.if-self.false, c.if-self-2.true)

pub returns-then-n-self : goal.returns-then-n-self
unfolding encap_told
returns-then-n-self c = simp (c.if-self.false, c.if-self-2.false, c.if-n-self.true)

pub overflow_sub-header : goal.overflow_sub-header
overflow_sub-header c = let a = c.args in omega (arith, small a.header a.self.protocol a.self.user a.n c.requires)

pub returns-then-header-n : goal.returns-then-header-n
unfolding encap_told
returns-then-header-n c =
    let a = c.args in
    let over = lt-ltb limit (shortest a.self.protocol a.self.user a.n + a.n) (omega (arith, c.requires, small a.header a.self.protocol a.self.user a.n c.requires)) in
    simp (c.if-self.false, c.if-self-2.false, c.if-n-self.false, over)

pub returns-then-room-header : goal.returns-then-room-header
unfolding encap_told
returns-then-room-header c =
    let a = c.args in
    let within = le-ltb limit (shortest a.self.protocol a.self.user a.n + a.n) (omega (arith, c.requires, small a.header a.self.protocol a.self.user a.n c.requires)) in
    let short = lt-ltb a.room (shortest a.self.protocol a.self.user a.n + a.n) (omega (arith, c.requires)) in
    simp (c.if-self.false, c.if-self-2.false, c.if-n-self.false, within, short)

pub returns : goal.returns
unfolding encap_told
returns c =
    let a = c.args in
    let within = le-ltb limit (shortest a.self.protocol a.self.user a.n + a.n) (omega (arith, c.requires, small a.header a.self.protocol a.self.user a.n c.requires)) in
    let fits = le-ltb a.room (shortest a.self.protocol a.self.user a.n + a.n) (omega (arith, c.requires)) in
    simp (c.if-self.false, c.if-self-2.false, c.if-n-self.false, within, fits)
