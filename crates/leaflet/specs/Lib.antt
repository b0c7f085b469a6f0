pub mod Leaflet
