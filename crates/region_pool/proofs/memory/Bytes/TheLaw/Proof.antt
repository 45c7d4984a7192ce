-- A `&` to the bytes of a block reaches each that is written. Assumes `Logic`.
use base.Fml.{Incl-refl}
use denote.Struct.Lending.{of_Lends}
use Rattle.region_pool.specs.contracts.memory.Bytes as C
use Rattle.region_pool.proofs.memory.Bytes.TheLaw.Statement.{statement}
use Rattle.region_pool.proofs.Sharing.{bytes_lent_laws, Lends-bytes}

pub shares : statement
shares =
    of_Lends C.struct C.the_codes C.the_heap C.the_lent (λ d p. bytes_lent_laws d.at d.items d.spare) tt
    (λ M 𝓤 𝓛 d p. Lends-bytes 𝓛 C.the_row.lives (Incl-refl _) d.at d.items d.spare)
