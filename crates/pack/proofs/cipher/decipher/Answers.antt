-- The length is one that the scheme takes, so it does its work, and its contract says that it is a cipher.
use borrow.Author.Tests.{eq-eqb, ne_eqb}
use Rattle.pack.specs.Inner.{on_block}
use Rattle.pack.proofs.Admits.{by_contract}
use Rattle.pack.proofs.cipher.decipher.Goals as goal

pub returns-then-sealed-eq512 : goal.returns-then-sealed-eq512
unfolding on_block
returns-then-sealed-eq512 g c =
    let a = c.args in
    let size = c.if-sealed-eq512.true in
    let e = c.decipher_with.ensures in
    let told =
    by_contract (g.S.Scheme.under a.expanded) g.S.Scheme.least g.S.Scheme.short a.position.pack a.position.place a.sealed.now g.S.Scheme.laws.takes_blocks size
    (rw c.tweak.ensures at e.value) (rw c.tweak.ensures at e.ciphertext_after) (rw c.tweak.ensures at e.cipher) in
    record { sealed_after = rw (eq-eqb _ 512 size) told.0; cipher_at = λ l. told.1 }

pub returns-else-sealed-eq512 : goal.returns-else-sealed-eq512
unfolding on_block
returns-else-sealed-eq512 g c =
    record { sealed_after = rw (ne_eqb _ 512 c.if-sealed-eq512.false); cipher_at = λ l. absurd (c.if-sealed-eq512.false l) }
