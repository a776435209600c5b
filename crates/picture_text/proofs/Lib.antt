pub mod Escaping
pub mod Stand
