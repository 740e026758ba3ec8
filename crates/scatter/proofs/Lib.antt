mod Scattering
mod WholeRows
mod LongRows
